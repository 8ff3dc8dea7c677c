-- SPDX-License-Identifier: BSD-2-Clause OR GPL-2.0-or-later
-- Laws that belong to no one function.
pub mod UniqueLaws
pub mod SoundLaws
pub mod RuleLaws
pub mod SecondTables
pub mod WellFormedLaws
pub mod CodeStages
