-- SPDX-License-Identifier: BSD-2-Clause OR GPL-2.0-or-later
-- Laws that belong to no one function.
pub mod RangeLaws
pub mod KeyLaws
pub mod NoteLaws
pub mod CodeLaws
pub mod IndexLaws
