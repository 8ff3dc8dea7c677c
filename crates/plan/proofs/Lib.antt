-- SPDX-License-Identifier: BSD-2-Clause OR GPL-2.0-or-later
-- Laws that belong to no one function, and what is claimed of the definitions.
mod AnyLaws
pub mod DigitLessLaws
pub mod SeparateLaws
pub mod PositionLaws
pub mod KeepLaws
pub mod ThinLaws
pub mod FewLaws
pub mod MinimalLaws
pub mod ListLaws
pub mod CheckMeans
pub mod SlotLaws
pub mod SlotMeans
pub mod PlannerMeans
pub mod PlaceLaws
pub mod UniqueLaws
