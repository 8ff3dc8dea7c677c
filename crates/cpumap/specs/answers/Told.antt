-- SPDX-License-Identifier: BSD-2-Clause OR GPL-2.0-or-later
-- What finding the map tells, in numbers.
use Rattle.std.specs.Prelude.{ℕ, Result, Ok, Err}
use Rattle.laws.specs.declared.rules.Broken.{Broken}
use Rattle.laws.specs.facts.Told.{number_of}
use Rattle.laws.specs.answers.Fault.{clear, plain}
use Rattle.cpumap.specs.facts.Told.{MapScan}

abbrev pub map_told : Result ℕ Broken → MapScan
map_told (Ok map) = record { fault = clear; map = map }
map_told (Err r) = record { fault = plain (number_of r.rule) r.place; map = 0 }
