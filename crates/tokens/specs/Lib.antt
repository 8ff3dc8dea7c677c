-- SPDX-License-Identifier: BSD-2-Clause OR GPL-2.0-or-later
-- What the contracts of `tokens` cite, and the tokens of a structure block as facts.
pub mod facts
pub mod answers
