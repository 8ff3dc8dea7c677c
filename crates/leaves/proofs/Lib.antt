-- SPDX-License-Identifier: BSD-2-Clause OR GPL-2.0-or-later
-- Laws that belong to no one function.
pub mod RuleCases
pub mod PropertyLaws
pub mod PhandleMeans
pub mod CheckCases
pub mod LeafCount
pub mod LeafMeans
pub mod CheckLeaf
pub mod LeafRules
pub mod TreeLeast
pub mod TreeTells
pub mod SecondMeans
pub mod TreeGives
pub mod RecordPassLaws
pub mod ScanLaws
