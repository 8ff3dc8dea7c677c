-- SPDX-License-Identifier: BSD-2-Clause OR GPL-2.0-or-later
-- What the contracts of `leaves` cite, and leaves and rules 24 to 26 as facts.
pub mod facts
pub mod answers
pub mod steps
