-- SPDX-License-Identifier: BSD-2-Clause OR GPL-2.0-or-later
-- A number in bytes.
use Rattle.std.specs.Prelude.{cond, List, ℕ, ◌+◌, ltb, length, take, drop}
use Rattle.wire.specs.facts.Bytes.{number_size, number_of}

-- the number in the eight bytes from a place on; 0 where there are fewer
unfoldable pub number_at : List ℕ → ℕ → ℕ
number_at bytes at = cond (ltb (length bytes) (at + number_size)) 0 (number_of (take number_size (drop at bytes)))
