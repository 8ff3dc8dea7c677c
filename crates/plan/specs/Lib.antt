-- SPDX-License-Identifier: BSD-2-Clause OR GPL-2.0-or-later
-- What the contracts of `plan` cite: bit positions that tell the MPIDRs of a list apart.
pub mod facts
pub mod answers
