-- SPDX-License-Identifier: BSD-2-Clause OR GPL-2.0-or-later
-- What the contracts of `layout` cite: the words of a row, and rows in a table.
pub mod facts
pub mod answers
