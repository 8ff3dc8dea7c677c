-- SPDX-License-Identifier: BSD-2-Clause OR GPL-2.0-or-later
-- What public contracts equate their results with.
pub mod Siblings
pub mod Check
pub mod Told
