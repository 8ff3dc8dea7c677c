-- SPDX-License-Identifier: BSD-2-Clause OR GPL-2.0-or-later
-- What the checks of the tree tell, in numbers.
use Rattle.std.specs.Prelude.{ℕ, true, false, Option, None, Some, Result, Ok, Err}
use Rattle.laws.specs.declared.rules.Refusal.{Refusal}
use Rattle.laws.specs.facts.Limits.{no_property}
use Rattle.laws.specs.facts.Told.{number_of}
use Rattle.laws.specs.answers.Told.{second_of, told_of}
use Rattle.laws.specs.answers.Fault.{clear}
use Rattle.leaves.specs.facts.Told.{RecordCheck, TreeScan}

-- of a record that is no leaf `none` is told in place of a cpu
abbrev pub check_told : ℕ → Result (Option ℕ) Refusal → RecordCheck
check_told none (Ok None) = record { number = 0; second = no_property; leaf = false; cpu = none }
check_told none (Ok (Some cpu)) = record { number = 0; second = no_property; leaf = true; cpu = cpu }
check_told none (Err r) = record { number = number_of r.rule; second = second_of r.property; leaf = false; cpu = none }

abbrev pub tree_told : Result ℕ Refusal → TreeScan
tree_told (Ok count) = record { fault = clear; count = count }
tree_told (Err r) = record { fault = told_of r; count = 0 }
