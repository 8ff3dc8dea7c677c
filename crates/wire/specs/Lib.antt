-- SPDX-License-Identifier: BSD-2-Clause OR GPL-2.0-or-later
-- What the contracts of `wire` cite: numbers in bytes, lowest byte first.
pub mod facts
pub mod answers
