-- SPDX-License-Identifier: BSD-2-Clause OR GPL-2.0-or-later
-- What the contracts of `slot_table` cite: the table from slots to rows.
pub mod facts
pub mod answers
