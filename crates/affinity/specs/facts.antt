-- SPDX-License-Identifier: BSD-2-Clause OR GPL-2.0-or-later
-- What has to be believed: each is a fact of the papers or a word that such facts use.
pub mod Slot
pub mod Mask
pub mod Hash
pub mod Level
pub mod List
pub mod Told
