-- SPDX-License-Identifier: BSD-2-Clause OR GPL-2.0-or-later
-- What is told of record 0 and of a cpu record, in numbers.
use Rattle.std.specs.Prelude.{ℕ}
use Rattle.laws.specs.facts.Told.{Fault}
use Rattle.cpus.specs.declared.Cells.{Cells}

-- the first of rules 9, 36 and 37 that is broken, and the cells of the board's `reg`s
pub record RootReading : Type 0 where
  pub fault : Fault
  pub cells : Cells

-- what a cpu record breaks, 0 where nothing, the second place of what is told of it, and its number
pub record CpuReading : Type 0 where
  pub number : ℕ
  pub second : ℕ
  pub value : ℕ
