-- SPDX-License-Identifier: BSD-2-Clause OR GPL-2.0-or-later
-- Laws about the definitions of this crate.
pub mod HeaderMeans
pub mod RuleLaws
pub mod RecordLaws
pub mod WithinLaws
pub mod WordLaws
pub mod OrderLaws
pub mod BoardLaws
pub mod KnownLaws
pub mod FillLaws
pub mod CpusLaws
pub mod JoinLaws
pub mod Claim
