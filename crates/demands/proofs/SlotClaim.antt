-- SPDX-License-Identifier: BSD-2-Clause OR GPL-2.0-or-later
-- The claim about the definitions that the contract of the call with a table cites. Assumes nothing.
use mathlib.Core.Path.{◌≡◌, sym, subst, ◌∙◌}
use mathlib.Core.Logic.{⊎_elim}
use mathlib.Core.List.{List, ◌∷◌}
use Prim.Native.Nat.{ℕ, ◌*◌, ◌^◌, ◌≤◌}
use native.Mathlib.Omega.{arith}
use lib.ListN.{length, drop}
use borrow.Author.Tests.{eq-eqb, ne_eqb}
use Rattle.laws.specs.facts.Told.{Fault}
use Rattle.laws.specs.answers.Fault.{told}
use Rattle.laws.proofs.SearchLaws.{lt_or_le}
use Rattle.laws.proofs.OrElseLaws.{told_number}
use Rattle.laws.proofs.RuleStageLaws.{tells_none}
use Rattle.layout.specs.facts.Row.{row_size, gap, slot_at}
use Rattle.slot_table.specs.facts.SlotTable.{SlotTable, RowsFound}
use Rattle.slot_table.specs.answers.Table.{entries_fault}
use Rattle.slot_table.proofs.FaultLaws.{entries_sound}
use Rattle.slot_table.proofs.TableLaws.{filled_table, table_found, one_gap}
use Rattle.affinity.specs.declared.Hash.{Hash}
use Rattle.tables.specs.facts.Board.{Board, WordSized, riscv, HasMpidrs}
use Rattle.cpus.specs.answers.Check.{cpu_count}
use Rattle.rows.specs.facts.BoardHash.{BoardHash}
use Rattle.rows.specs.answers.Slots.{board_hash}
use Rattle.rows.proofs.FitUnique.{board_hash_unique}
use Rattle.rows.specs.answers.Write.{source_of}
use Rattle.demands.specs.facts.Told.{BoardAnswer}
use Rattle.demands.specs.facts.Rules.{Breaks}
use Rattle.demands.specs.facts.Reading.{Refused, Accepted, Demands}
use Rattle.demands.specs.facts.Slots.{SlotTableBroken, SlotBreaks, SlotTableDemands}
use Rattle.demands.specs.answers.Answer.{board_fault, answer_of, rows_after}
use Rattle.demands.specs.answers.Slots.{slots_fault, slots_answer, slots_rows, slots_table}
use Rattle.demands.proofs.AnswerLaws.{told_first, by_number, by_refusal, by_else}
use Rattle.demands.proofs.SecondSlots.{slots_second}
use Rattle.demands.proofs.Claim.{none, demands}
use Rattle.demands.proofs.BoundLaws.{answer_count}
use Rattle.demands.proofs.DemandsUnique.{accepted}
use Rattle.demands.proofs.SlotTells.{slot_rule, slots_tells, slot_breaks_staged}

module _ {b : Board} (sized : WordSized b) (rows table : List ℕ) where
  abbrev room : ℕ
  room = length rows

  abbrev entries : ℕ
  entries = length table

  abbrev fault : Fault
  fault = slots_fault b room entries

  abbrev answer : BoardAnswer
  answer = slots_answer b room entries

  abbrev rows_then : List ℕ
  rows_then = slots_rows b rows entries

  answer_number : answer.number ≡ fault.number
  unfolding slots_answer
  answer_number = by_number fault (cpu_count b) (board_hash b)

  unbroken : answer.number ≡ 0 → (n p : ℕ) → SlotBreaks b room entries n p → ⊥
  unbroken z = tells_none slot_breaks_staged (slots_tells sized room entries) (sym answer_number ∙ z)

  refusal : (answer.number ≡ 0 → ⊥) → Refused b (SlotBreaks b room entries) rows answer rows_then
  unfolding slots_answer slots_rows
  refusal some =
      let ne : fault.number ≡ 0 → ⊥ = λ z. some (answer_number ∙ z) in
      by_refusal fault (cpu_count b) (board_hash b) (source_of b) rows ne
      (told_first (omega arith) slot_breaks_staged (slots_tells sized room entries) ne)
      (slots_second b room entries)

  -- neither 38 nor 39 is broken
  module _ (free : (n p : ℕ) → SlotTableBroken b entries n p → ⊥) where
    clear : (board_fault b room).number ≡ 0 → (told (entries_fault (board_hash b).bits entries) 0).number ≡ 0
    clear z =
        let kept = none sized rows z in
        told_number (entries_fault (board_hash b).bits entries) 0
        ∙ entries_sound (board_hash b).bits entries
        (λ n p r. free n p (slot_rule sized (λ m q s. kept m q (Breaks.tables s)) (λ m q s. kept m q (Breaks.cpus s)) r))

    same : (answer ≡ answer_of b room) × (rows_then ≡ rows_after b rows)
    unfolding slots_fault slots_answer slots_rows answer_of rows_after
    same = by_else (board_fault b room) (cpu_count b) (board_hash b) _ (source_of b) rows clear

    as_without : Demands b rows answer rows_then
    as_without = rw (same.0, same.1) (demands sized rows)

  -- an acceptance
  module _ (z : answer.number ≡ 0) where
    free : (n p : ℕ) → SlotTableBroken b entries n p → ⊥
    free n p r = unbroken z n p (SlotBreaks.slots r)

    reading : Accepted b rows answer rows_then
    reading = accepted (as_without free) z

    pub whole : row_size * answer.count ≤ length rows_then
    whole =
        let cpus = reading.count in
        ⊎_elim
        (λ lt. absurd (unbroken z 27 0 (SlotBreaks.reading (Breaks.row_space cpus.0 cpus.1 lt))))
        (λ le. rw (reading.size, cpus.2) le)
        (lt_or_le room (row_size * length cpus.0))

    few : answer.count ≤ gap
    few = omega (arith, rw (← (same free).0) at (answer_count b room))

    tabled : SlotTable (slot_at rows_then) answer.count (2 ^ answer.hash.bits) table (slots_table b rows table)
    unfolding slots_table
    tabled =
        rw (eq-eqb answer.number 0 z)
        (filled_table rows_then answer.count whole answer.hash.bits table
        (λ n p r. free n p (SlotTableBroken.slots answer.hash reading.hash r))
        few)

    -- MPIDRs have slots of their own
    found : HasMpidrs b → RowsFound (slot_at rows_then) answer.count (2 ^ answer.hash.bits) (slots_table b rows table)
    found has = table_found tabled (record { distinct = reading.distinct has; bounded = reading.bounded has })

    -- hart ids have none, and the hash no bits
    no_slots : b.width ≡ riscv → slots_table b rows table ≡ gap ∷ drop 1 table
    no_slots e =
        let hash = board_hash_unique (λ n p r. unbroken z n p (SlotBreaks.reading (Breaks.tables r))) reading.hash (BoardHash.of_harts e) in
        one_gap
        (subst (λ (h : Hash). SlotTable (slot_at rows_then) answer.count (2 ^ h.bits) table (slots_table b rows table)) hash tabled)
        (reading.gaps e)

  untouched : (answer.number ≡ 0 → ⊥) → slots_table b rows table ≡ table
  unfolding slots_table
  untouched ne = rw (ne_eqb answer.number 0 ne)

  pub slot_demands : SlotTableDemands b rows table answer rows_then (slots_table b rows table)
  slot_demands =
      record {
        refused = refusal;
        untouched = untouched;
        sound = unbroken;
        as_without = as_without;
        tabled = tabled;
        found = found;
        no_slots = no_slots;
      }
