-- SPDX-License-Identifier: BSD-2-Clause OR GPL-2.0-or-later
-- What a reader that stops at the first fault answers. Assumes nothing.
use Rattle.std.specs.Prelude.{Option, Ok, Err}
use mathlib.Core.Path.{◌≡◌, refl, sym, ap, ◌∙◌}
use mathlib.Core.Bool.{Bool, true, false, cond}
use mathlib.Core.List.{List}
use Prim.Native.Nat.{ℕ}
use lib.Dec.{eqb}
use lib.ListN.{length}
use borrow.Author.Tests.{eq-eqb, ne_eqb}
use Rattle.laws.specs.facts.Told.{Fault}
use Rattle.laws.specs.declared.rules.Refusal.{Refusal}
use Rattle.laws.specs.answers.Fault.{clear}
use Rattle.laws.specs.answers.Told.{told_of}
use Rattle.laws.proofs.ToldLaws.{refusal_first, refusal_shown}
use Rattle.tables.specs.facts.Board.{Board}
use Rattle.cpus.specs.answers.Check.{cpu_count}
use Rattle.cpumap.specs.answers.Find.{map_of, map_fault, map_scan}
use Rattle.leaves.specs.answers.Scan.{leaves_of}
use Rattle.rows.specs.answers.Slots.{board_hash}
use Rattle.rows.specs.answers.Write.{source_of}
use Rattle.demands.specs.facts.Told.{BoardAnswer}
use Rattle.board.specs.declared.Counts.{Counts}
use Rattle.board.specs.steps.Told.{Surveyed, survey_told}
use Rattle.demands.specs.answers.Survey.{survey_fault}
use Rattle.board.specs.steps.Survey.{stopped, survey_of}
use Rattle.board.specs.steps.Read.{written_fault, read_fault}
use Rattle.demands.specs.answers.Answer.{board_fault, refused_with, answer_by, rows_by}

-- the map's record
pub map_root : (nodes pool : List ℕ) → (map_fault nodes pool).number ≡ 0 → (map_scan nodes pool).map ≡ map_of nodes pool
unfolding map_scan
map_root nodes pool z = rw (eq-eqb (map_fault nodes pool).number 0 z)

-- the survey
module _ (b : Board) where
  survey_fault_lem : (survey_of b).fault ≡ survey_fault b
  unfolding survey_of
  survey_fault_lem = go (eqb (survey_fault b).number 0)
    where
      clear : Surveyed
      clear = record { fault = survey_fault b; cpus = cpu_count b; leaves = length (leaves_of b) }

      go : (t : Bool) → (cond t clear (stopped (survey_fault b))).fault ≡ survey_fault b
      go true = refl
      go false = refl

  survey_counts : (survey_fault b).number ≡ 0 → ((survey_of b).cpus ≡ cpu_count b) × ((survey_of b).leaves ≡ length (leaves_of b))
  unfolding survey_of
  survey_counts z = rw (eq-eqb (survey_fault b).number 0 z) (refl, refl)

  survey_stopped : ((survey_fault b).number ≡ 0 → ⊥) → ((survey_of b).cpus ≡ 0) × ((survey_of b).leaves ≡ 0)
  unfolding survey_of
  survey_stopped ne = rw (ne_eqb (survey_fault b).number 0 ne) (refl, refl)

-- a survey that tells nothing counts the cpu records and the leaves
module _ (b : Board) {counts : Counts} (found : survey_told (Ok counts) ≡ survey_of b) where
  pub clear_is : clear ≡ survey_fault b
  clear_is = ap (λ (r : Surveyed). r.fault) found ∙ survey_fault_lem b

  pub survey_clear : (survey_fault b).number ≡ 0
  survey_clear = ap (λ (f : Fault). f.number) (sym clear_is)

  pub counts_are : (counts.cpus ≡ cpu_count b) × (counts.leaves ≡ length (leaves_of b))
  counts_are =
      (ap (λ (r : Surveyed). r.cpus) found ∙ (survey_counts b survey_clear).0, ap (λ (r : Surveyed). r.leaves) found ∙ (survey_counts b survey_clear).1)

  -- .. so what is told of the rooms is what is told of the board
  pub rooms_are :
      (room : ℕ) (entries : Option ℕ) → written_fault (cpu_count b) room entries (board_hash b).bits ≡ read_fault b room entries
  unfolding board_fault
  rooms_are room entries = rw (← clear_is) refl

-- what is owed for a row buffer, of which so many words count
module _ (b : Board) (before : List ℕ) (room : ℕ) (entries : Option ℕ) where
  abbrev pub Met : BoardAnswer → List ℕ → Type 0
  Met r after =
      (r ≡ answer_by (read_fault b room entries) (cpu_count b) (board_hash b)) × (after ≡ rows_by (read_fault b room entries) (source_of b) before)

  -- a survey that gives up
  pub gave_up : (e : Refusal) → survey_told (Err e) ≡ survey_of b → Met (refused_with (told_of e)) before
  unfolding board_fault
  gave_up e found =
      let same : told_of e ≡ survey_fault b = ap (λ (r : Surveyed). r.fault) found ∙ survey_fault_lem b in
      rw (← same, refusal_first e, refusal_first e, refusal_shown e) (refl, refl)
