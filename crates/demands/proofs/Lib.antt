-- SPDX-License-Identifier: BSD-2-Clause OR GPL-2.0-or-later
-- That the definitions meet the demands, and that the demands leave one answer.
pub mod StageLaws
pub mod LayerLaws
pub mod BoardTells
pub mod SecondBoard
pub mod SecondSlots
pub mod SplitLaws
pub mod AnswerLaws
pub mod Claim
pub mod BoundLaws
pub mod DemandsUnique
pub mod SlotTells
pub mod SlotClaim
pub mod SlotUnique
