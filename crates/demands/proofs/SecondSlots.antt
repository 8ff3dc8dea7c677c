-- SPDX-License-Identifier: BSD-2-Clause OR GPL-2.0-or-later
-- The second place of what is told with a table of slots: 38 and 39 are told of no property. Assumes nothing.
use mathlib.Core.Path.{◌≡◌, refl, sym, ap, ◌∙◌}
use mathlib.Core.Logic.{◌↔◌}
use mathlib.Core.Bool.{Bool, true, false, cond}
use mathlib.Core.List.{List}
use Prim.Native.Nat.{ℕ, ◌^◌, ◌≤◌}
use native.Mathlib.Omega.{arith}
use lib.Dec.{eqb, ltb}
use borrow.Author.Tests.{eqb-true, eqb-false}
use Rattle.laws.specs.facts.First.{has}
use Rattle.laws.specs.facts.Limits.{max_table_bits, no_property}
use Rattle.laws.specs.facts.Told.{Fault}
use Rattle.laws.specs.answers.Fault.{told}
use Rattle.laws.proofs.FaultLaws.{or_first, or_second}
use Rattle.laws.proofs.OrElseLaws.{told_number}
use Rattle.slot_table.specs.answers.Table.{entries_fault}
use Rattle.tables.specs.facts.Board.{Board}
use Rattle.tables.specs.facts.Second.{Concerns, Second}
use Rattle.tables.proofs.SecondLaws.{spoken, HasSecond, no_concern, told_second, second_silent}
use Rattle.rows.specs.answers.Slots.{board_hash}
use Rattle.demands.specs.answers.Answer.{board_fault}
use Rattle.demands.specs.answers.Slots.{slots_fault}
use Rattle.demands.proofs.SecondBoard.{second_is, second_word}

module _ (b : Board) (room entries : ℕ) where
  abbrev bits : ℕ
  bits = (board_hash b).bits

  abbrev last : Fault
  last = told (entries_fault bits entries) 0

  unspoken : has spoken (entries_fault bits entries) ≡ false
  unspoken = go (ltb max_table_bits bits) (ltb entries (2 ^ bits))
    where
      go : (t u : Bool) → has spoken (cond t 38 (cond u 39 0)) ≡ false
      go true u = refl
      go false true = refl
      go false false = refl

  silent : (key : List ℕ) → Concerns last.number key → ⊥
  silent key = no_concern (ap (has spoken) (told_number (entries_fault bits entries) 0) ∙ unspoken)

  has_none : HasSecond b last
  has_none = told_second b (entries_fault bits entries) 0 unspoken

  -- what is told is that of the call without the table, or 38, 39 or nothing
  either : (P : Fault → Type 0) → P (board_fault b room) → P last → P (slots_fault b room entries)
  unfolding slots_fault
  either P board entry = go (eqb (board_fault b room).number 0) refl
    where
      go : (t : Bool) → eqb (board_fault b room).number 0 ≡ t → P (slots_fault b room entries)
      go true e = rw (or_second (board_fault b room) last (eqb-true (board_fault b room).number 0 e)) entry
      go false e = rw (or_first (board_fault b room) last (eqb-false (board_fault b room).number 0 e)) board

  pub slots_second : (s : ℕ) → let f = slots_fault b room entries in Second b f.number f.place s ↔ (s ≡ f.second)
  slots_second s =
      either (λ f. Second b f.number f.place s ↔ (s ≡ f.second))
      (second_is b room s)
      (λ h. second_silent silent h ∙ sym (second_silent silent has_none), λ e. rw e has_none)

  pub slots_word : (slots_fault b room entries).second ≤ no_property
  slots_word = either (λ f. f.second ≤ no_property) (second_word b room) (omega (arith, second_silent silent has_none))
