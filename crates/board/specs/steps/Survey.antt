-- SPDX-License-Identifier: BSD-2-Clause OR GPL-2.0-or-later
-- What a survey answers, and what it leaves in the lent arrays.
use Rattle.std.specs.Prelude.{cond, ◌≡◌, List, ℕ, eqb, length, take, replicate}
use Rattle.laws.specs.facts.Told.{Fault}
use Rattle.laws.specs.answers.Listed.{laid_over}
use Rattle.tables.specs.facts.Board.{Board}
use Rattle.cpus.specs.answers.Check.{cpu_count, cpu_list, reg_list}
use Rattle.leaves.specs.answers.Scan.{leaves_of, named_of}
use Rattle.rows.specs.declared.Lists.{Lists as RowLists}
use Rattle.board.specs.declared.Arrays.{Arrays}
use Rattle.board.specs.declared.Counts.{Counts}
use Rattle.board.specs.steps.Told.{Surveyed}
use Rattle.demands.specs.answers.Survey.{survey_fault}

-- a refusal: every other result is 0
abbrev pub stopped : Fault → Surveyed
stopped f = record { fault = f; cpus = 0; leaves = 0 }

unfoldable pub survey_of : Board → Surveyed
survey_of b =
    let f = survey_fault b in
    cond (eqb f.number 0) (record { fault = f; cpus = cpu_count b; leaves = length (leaves_of b) }) (stopped f)

-- four lent arrays, before and after: each list over what its array held
pub record Lists (b : Board) (cpus₀ regs₀ leaves₀ named₀ cpus regs leaves named : List ℕ) : Type 0 where
  pub cpus_laid : cpus ≡ laid_over (cpu_list b) cpus₀
  pub regs_laid : regs ≡ laid_over (reg_list b) regs₀
  pub leaves_laid : leaves ≡ laid_over (leaves_of b) leaves₀
  pub named_laid : named ≡ laid_over (named_of b) named₀

abbrev pub Listed : Board → Arrays → Arrays → Type 0
Listed b before after =
    Lists b before.cpus before.regs before.leaves before.named after.cpus after.regs after.leaves after.named

-- the arrays before a survey
abbrev pub zeros : Arrays
zeros = record { cpus = replicate 256 0; regs = replicate 256 0; leaves = replicate 256 0; named = replicate 256 0 }

-- the lists that a survey counted, at the front of the arrays
pub record IsListed (arrays : Arrays) (counts : Counts) (lists : RowLists) : Type 0 where
  pub cpus : lists.cpus.now ≡ take counts.cpus arrays.cpus
  pub regs : lists.regs.now ≡ take counts.cpus arrays.regs
  pub leaves : lists.leaves.now ≡ take counts.leaves arrays.leaves
  pub named : lists.named.now ≡ take counts.leaves arrays.named
