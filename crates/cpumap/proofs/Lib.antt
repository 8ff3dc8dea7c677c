-- SPDX-License-Identifier: BSD-2-Clause OR GPL-2.0-or-later
-- What the computed definitions mean, as facts about a board.
pub mod NumberLaws
pub mod NameFacts
pub mod MapMeans
pub mod MapTells
pub mod SecondMap
pub mod WithinMeans
pub mod PathMeans
pub mod PathWords
pub mod SocketMeans
pub mod CodeLaws
