-- SPDX-License-Identifier: BSD-2-Clause OR GPL-2.0-or-later
-- What public contracts equate their results with.
pub mod FromDigits
pub mod Fault
pub mod Listed
pub mod Same
pub mod Search
pub mod Told
