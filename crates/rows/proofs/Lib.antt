-- SPDX-License-Identifier: BSD-2-Clause OR GPL-2.0-or-later
-- What the rows hold, as facts: rows that fit a map are unique, and the rows written fit.
pub mod ShapeLaws
pub mod WordMeans
pub mod FitUnique
pub mod RowLaws
pub mod PositionLaws
pub mod WrittenLaws
pub mod SourceMeans
pub mod HashMeans
pub mod FitMeans
pub mod SlotMeans
