-- SPDX-License-Identifier: BSD-2-Clause OR GPL-2.0-or-later
-- What is told of the tree below the map, in numbers.
use Rattle.std.specs.Prelude.{ℕ, Bool}
use Rattle.laws.specs.facts.Told.{Fault}

-- what a record breaks, 0 where nothing, the second place of what is told of it, and which cpu it names, by its index among the cpu records,
-- where it is a leaf
pub record RecordCheck : Type 0 where
  pub number : ℕ
  pub second : ℕ
  pub leaf : Bool
  pub cpu : ℕ

-- the first of rules 18 to 26 that is broken, or how many leaves a map has
pub record TreeScan : Type 0 where
  pub fault : Fault
  pub count : ℕ
