-- SPDX-License-Identifier: BSD-2-Clause OR GPL-2.0-or-later
-- What the check of a record tells, in numbers.
use Rattle.std.specs.Prelude.{Bool, false, Result, Ok, Err}
use Rattle.laws.specs.declared.rules.Rule.{Rule}
use Rattle.laws.specs.facts.Told.{number_of}
use Rattle.topology.specs.facts.Told.{RecordShape}

abbrev pub shape_told : Result Bool Rule → RecordShape
shape_told (Ok leaf) = record { number = 0; leaf = leaf }
shape_told (Err r) = record { number = number_of r; leaf = false }
