-- SPDX-License-Identifier: BSD-2-Clause OR GPL-2.0-or-later
-- What the contracts of `wellformed` cite: rules 1 to 8, and the order in which broken rules are told.
pub mod facts
pub mod answers
