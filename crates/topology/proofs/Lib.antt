-- SPDX-License-Identifier: BSD-2-Clause OR GPL-2.0-or-later
-- What the computed definitions mean, as facts about a board.
pub mod ChildMeans
pub mod SiblingLaws
pub mod RuleCases
pub mod KindMeans
pub mod RecordMeans
pub mod PlaceMeans
pub mod ShapeMeans
pub mod ShapeNumberLaws
pub mod CodeLaws
