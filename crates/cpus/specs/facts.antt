-- SPDX-License-Identifier: BSD-2-Clause OR GPL-2.0-or-later
-- What has to be believed: each is a fact of the papers or a word that such facts use.
pub mod Node
pub mod Rules
pub mod Told
