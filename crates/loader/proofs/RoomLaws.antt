-- SPDX-License-Identifier: BSD-2-Clause OR GPL-2.0-or-later
-- A table with room for the rows of 256 cpu records: rule 27 does not see where it ends. Assumes nothing.
use mathlib.Core.Path.{◌≡◌, refl, sym, ap, ◌∙◌}
use mathlib.Core.Logic.{⊎_elim}
use mathlib.Core.Bool.{Bool, true, false}
use Prim.Native.Nat.{ℕ, ◌*◌, ◌≤◌, min}
use native.Mathlib.Omega.{arith}
use lib.Dec.{eqb}
use borrow.Author.Tests.{eqb-true, eqb-false, lt-ltb, le-ltb}
use Rattle.laws.specs.facts.Limits.{max_cpus}
use Rattle.laws.specs.facts.Told.{Fault}
use Rattle.laws.specs.answers.Fault.{told, or_else}
use Rattle.laws.proofs.FaultLaws.{or_first}
use Rattle.laws.proofs.OrElseLaws.{or_clear}
use Rattle.laws.proofs.SearchLaws.{lt_or_le}
use Rattle.layout.specs.facts.Row.{row_size}
use Rattle.tables.specs.facts.Board.{Board}
use Rattle.cpus.specs.answers.Check.{cpu_count}
use Rattle.rows.specs.answers.Slots.{board_hash}
use Rattle.demands.specs.answers.Survey.{survey_fault}
use Rattle.demands.specs.answers.Answer.{room_fault, board_fault, answer_by, answer_of}
use Rattle.board.proofs.SurveyLaws.{survey_few}

module _ (b : Board) (room most : ℕ) (enough : row_size * max_cpus ≤ most) where
  same_room : cpu_count b ≤ max_cpus → room_fault (min room most) (cpu_count b) ≡ room_fault room (cpu_count b)
  same_room few =
      ⊎_elim
      (λ lt. rw (lt-ltb (min room most) (row_size * cpu_count b) (omega arith), lt-ltb room (row_size * cpu_count b) lt))
      (λ le. rw (le-ltb (min room most) (row_size * cpu_count b) (omega arith), le-ltb room (row_size * cpu_count b) le))
      (lt_or_le room (row_size * cpu_count b))

  pub same_fault : board_fault b (min room most) ≡ board_fault b room
  unfolding board_fault
  same_fault = go (eqb (survey_fault b).number 0) refl
    where
      go :
          (t : Bool) →
          eqb (survey_fault b).number 0 ≡ t →
          or_else (survey_fault b) (told (room_fault (min room most) (cpu_count b)) 0)
          ≡ or_else (survey_fault b) (told (room_fault room (cpu_count b)) 0)
      go true e = ap (λ (n : ℕ). or_else (survey_fault b) (told n 0)) (same_room (survey_few b (eqb-true (survey_fault b).number 0 e)).0)
      go false e =
          let ne = eqb-false (survey_fault b).number 0 e in
          or_first (survey_fault b) _ ne ∙ sym (or_first (survey_fault b) _ ne)

  pub same_answer : answer_of b (min room most) ≡ answer_of b room
  unfolding answer_of
  same_answer = ap (λ (f : Fault). answer_by f (cpu_count b) (board_hash b)) same_fault

-- a board of which nothing is told has few cpu records
pub accepted_few : (b : Board) (room : ℕ) → (board_fault b room).number ≡ 0 → cpu_count b ≤ max_cpus
unfolding board_fault
accepted_few b room z = (survey_few b (or_clear (survey_fault b) _ z).0).0
