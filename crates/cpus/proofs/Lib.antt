-- SPDX-License-Identifier: BSD-2-Clause OR GPL-2.0-or-later
-- Laws that belong to no one function.
pub mod CpuMeans
pub mod PairMeans
pub mod OptionLaws
pub mod ValueMeans
pub mod RegMeans
pub mod FaultMeans
pub mod CpuGives
pub mod RuleMeans
pub mod CpuTells
pub mod SecondMeans
pub mod NumberPassLaws
pub mod ScanLaws
