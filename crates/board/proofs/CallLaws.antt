-- SPDX-License-Identifier: BSD-2-Clause OR GPL-2.0-or-later
-- What the two calls owe, by what `read` promises. Assumes nothing.
use Rattle.std.specs.Prelude.{Option, None, Some}
use mathlib.Core.Path.{◌≡◌, refl, ◌∙◌}
use mathlib.Core.List.{List}
use Prim.Native.Nat.{ℕ, ◌*◌, ◌≤◌}
use lib.ListN.{length}
use borrow.Author.Tests.{eq-eqb, ne_eqb}
use Rattle.laws.specs.answers.Fault.{told}
use Rattle.layout.specs.facts.Row.{row_size}
use Rattle.slot_table.specs.answers.Table.{filled}
use Rattle.tables.specs.facts.Board.{Board, WordSized}
use Rattle.cpus.specs.answers.Check.{cpu_count}
use Rattle.rows.specs.answers.Slots.{board_hash}
use Rattle.rows.specs.answers.Write.{source_of}
use Rattle.demands.specs.facts.Told.{BoardAnswer}
use Rattle.demands.specs.facts.Reading.{rows_in, Demands}
use Rattle.demands.specs.facts.Slots.{SlotTableDemands}
use Rattle.demands.specs.answers.Answer.{board_fault, rows_by, answer_of, rows_after}
use Rattle.demands.specs.answers.Slots.{slots_fault, slots_answer, slots_rows, slots_table}
use Rattle.demands.proofs.AnswerLaws.{by_else}
use Rattle.demands.proofs.Claim.{demands}
use Rattle.demands.proofs.BoundLaws.{slots_count}
use Rattle.demands.proofs.SlotClaim.{slot_demands, whole}
use Rattle.board.proofs.ReadLaws.{Met}

-- rows alone: nothing is told after rule 27
pub rows_alone :
    (b : Board) (before : List ℕ) (room : ℕ) {r : BoardAnswer} {after : List ℕ} →
    Met b before room None r after →
    (r ≡ answer_of b room) × (after ≡ rows_by (board_fault b room) (source_of b) before)
unfolding answer_of
rows_alone b before room promised =
    let same = by_else (board_fault b room) (cpu_count b) (board_hash b) (told 0 0) (source_of b) before (λ _. refl) in
    (promised.0 ∙ same.0, promised.1 ∙ same.1)

module _ {b : Board} (sized : WordSized b) (before : List ℕ) where
  -- what `read` promises of an answer and the row buffer
  abbrev Read : Option ℕ → BoardAnswer → List ℕ → Type 0
  Read asked r after = Met b before (length before) asked r after

  pub reads_tables :
      {r : BoardAnswer} {after : List ℕ} →
      Read None r after →
      (r ≡ answer_of b (length before)) × ((after ≡ rows_after b before) × Demands b before r after)
  unfolding rows_after
  reads_tables {r} {after} promised =
      let alone = rows_alone b before (length before) promised in
      let g : after ≡ rows_after b before = alone.1 in
      (alone.0, (g, rw (alone.0, g) (demands sized before)))

  -- with a table
  module _ (table : List ℕ) {r : BoardAnswer} {rows : List ℕ} (promised : Read (Some (length table)) r rows) where
    answer_is : r ≡ slots_answer b (length before) (length table)
    unfolding slots_fault slots_answer
    answer_is = promised.0

    rows_are : rows ≡ slots_rows b before (length table)
    unfolding slots_fault slots_rows
    rows_are = promised.1

    pub few_rows : r.count ≤ 256
    few_rows = rw answer_is (slots_count b (length before) (length table))

    pub rows_there : r.number ≡ 0 → row_size * r.count ≤ length rows
    rows_there z = rw (answer_is, rows_are) (whole sized before table (rw answer_is at z))

    abbrev Owed : List ℕ → Type 0
    Owed after =
        (r ≡ slots_answer b (length before) (length table))
        × ((rows ≡ slots_rows b before (length table)) × ((after ≡ slots_table b before table) × SlotTableDemands b before table r rows after))

    owed : {after : List ℕ} → after ≡ slots_table b before table → Owed after
    owed e = (answer_is, (rows_are, (e, rw (answer_is, rows_are, e) (slot_demands sized before table))))

    pub fills : {after : List ℕ} → r.number ≡ 0 → after ≡ filled (rows_in r rows) r.hash.bits table → Owed after
    unfolding slots_table
    fills {after} z e = owed (rw (← answer_is, eq-eqb r.number 0 z, ← rows_are) e)

    pub leaves : (r.number ≡ 0 → ⊥) → Owed table
    unfolding slots_table
    leaves ne = owed (rw (← answer_is, ne_eqb r.number 0 ne))
