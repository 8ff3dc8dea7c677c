-- SPDX-License-Identifier: BSD-2-Clause OR GPL-2.0-or-later
-- What is told of a record below the map, in numbers: what it breaks of 18 to 23, 0 where nothing, and whether it is a leaf.
use Rattle.std.specs.Prelude.{ℕ, Bool}

pub record RecordShape : Type 0 where
  pub number : ℕ
  pub leaf : Bool
