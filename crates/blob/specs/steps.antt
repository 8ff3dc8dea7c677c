-- SPDX-License-Identifier: BSD-2-Clause OR GPL-2.0-or-later
-- What contracts inside the crate equate their results with.
pub mod Ends
pub mod Blocks
