-- SPDX-License-Identifier: BSD-2-Clause OR GPL-2.0-or-later
-- Laws of the table from slots to rows.
pub mod FaultLaws
pub mod TableLaws
pub mod UniqueLaws
