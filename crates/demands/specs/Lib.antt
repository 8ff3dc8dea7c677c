-- SPDX-License-Identifier: BSD-2-Clause OR GPL-2.0-or-later
-- The rules and their order, the answer, and the demands on it.
pub mod facts
pub mod answers
