-- SPDX-License-Identifier: BSD-2-Clause OR GPL-2.0-or-later
-- What a reading tells, in numbers.
use Rattle.std.specs.Prelude.{Result, Ok, Err}
use Rattle.laws.specs.declared.rules.Refusal.{Refusal}
use Rattle.laws.specs.facts.Told.{number_of}
use Rattle.laws.specs.answers.Told.{second_of, told_in}
use Rattle.cpus.specs.declared.RootReading.{RootReading as Root}
use Rattle.cpus.specs.declared.CpuNumber.{CpuNumber}
use Rattle.cpus.specs.facts.Told.{RootReading, CpuReading}

abbrev pub root_told : Root → RootReading
root_told root = record { fault = told_in root.checked; cells = root.cells }

abbrev pub reading_told : Result CpuNumber Refusal → CpuReading
reading_told (Ok found) = record { number = 0; second = second_of found.property; value = found.value }
reading_told (Err r) = record { number = number_of r.rule; second = second_of r.property; value = 0 }
