-- SPDX-License-Identifier: BSD-2-Clause OR GPL-2.0-or-later
-- What public contracts equate their results with.
pub mod Hash
pub mod Level
pub mod List
pub mod Mask
pub mod Told
