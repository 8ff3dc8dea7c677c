-- SPDX-License-Identifier: BSD-2-Clause OR GPL-2.0-or-later
-- Laws of the words of a row.
pub mod RowLaws
