-- SPDX-License-Identifier: BSD-2-Clause OR GPL-2.0-or-later
-- Laws that belong to no one function.
pub mod TreeLaws
pub mod DepthLaws
pub mod LookupLaws
pub mod SecondLaws
pub mod DecideLaws
pub mod CellLaws
pub mod CodePool
pub mod CodeTree
