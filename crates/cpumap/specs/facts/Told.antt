-- SPDX-License-Identifier: BSD-2-Clause OR GPL-2.0-or-later
-- What is told of the map, in numbers: the first of rules 15 and 16 that is broken, or the map's record.
use Rattle.std.specs.Prelude.{ℕ}
use Rattle.laws.specs.facts.Told.{Fault}

pub record MapScan : Type 0 where
  pub fault : Fault
  pub map : ℕ
