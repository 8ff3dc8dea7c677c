-- SPDX-License-Identifier: BSD-2-Clause OR GPL-2.0-or-later
-- What is told of a surveyed board, in numbers.
use Rattle.std.specs.Prelude.{ℕ, Result, Ok, Err}
use Rattle.laws.specs.declared.rules.Refusal.{Refusal}
use Rattle.laws.specs.facts.Told.{Fault}
use Rattle.laws.specs.answers.Told.{told_of}
use Rattle.laws.specs.answers.Fault.{clear}
use Rattle.board.specs.declared.Counts.{Counts}

-- no fault, with the counts of the cpu records and of the leaves; or a fault, with which these are 0
pub record Surveyed : Type 0 where
  pub fault : Fault
  pub cpus : ℕ
  pub leaves : ℕ

abbrev pub survey_told : Result Counts Refusal → Surveyed
survey_told (Ok found) = record { fault = clear; cpus = found.cpus; leaves = found.leaves }
survey_told (Err r) = record { fault = told_of r; cpus = 0; leaves = 0 }
