-- SPDX-License-Identifier: BSD-2-Clause OR GPL-2.0-or-later
-- What the contracts of `tables` cite, and the facts about a board that rules are stated in.
pub mod facts
pub mod answers
pub mod steps
