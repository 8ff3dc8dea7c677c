-- SPDX-License-Identifier: BSD-2-Clause OR GPL-2.0-or-later
-- What the contracts of `records` cite.
pub mod answers
pub mod steps
