-- SPDX-License-Identifier: BSD-2-Clause OR GPL-2.0-or-later
-- What holds of the call that fills a table of slots besides the rows (02, W5): 38 and 39 behind all other rules, and the claim about it.
use Rattle.std.specs.Prelude.{◌≡◌, List, ◌∷◌, ℕ, ◌^◌, length, drop}
use Rattle.layout.specs.facts.Row.{gap, slot_at}
use Rattle.slot_table.specs.facts.SlotTable.{SlotTableRule, SlotTable, RowsFound}
use Rattle.affinity.specs.declared.Hash.{Hash}
use Rattle.tables.specs.facts.Board.{Board, riscv, HasMpidrs}
use Rattle.rows.specs.facts.BoardHash.{BoardHash}
use Rattle.demands.specs.facts.Told.{BoardAnswer}
use Rattle.demands.specs.facts.Rules.{Breaks}
use Rattle.demands.specs.facts.Reading.{Refused, Demands}

-- 38 or 39 is broken at a place, for a board and a table of so many entries
pub data SlotTableBroken (b : Board) (entries : ℕ) (n p : ℕ) : Type 0 where
  slots : (h : Hash) → BoardHash b h → SlotTableRule h.bits entries n p → SlotTableBroken b entries n p

-- a rule of the larger family is broken at a place, for a row buffer of so many words, too
pub data SlotBreaks (b : Board) (room entries : ℕ) : ℕ → ℕ → Type 0 where
  reading : {n p : ℕ} → Breaks b room n p → SlotBreaks b room entries n p
  slots : {n p : ℕ} → SlotTableBroken b entries n p → SlotBreaks b room entries n p

-- the rows and the table as they were lent, the answer, and both afterwards
pub record SlotTableDemands (b : Board) (rows table : List ℕ) (answer : BoardAnswer) (rows_after table_after : List ℕ) : Type 0 where
  -- demand 1, of every input: a refusal tells the first broken rule and leaves rows and table, and an acceptance tells that none is broken
  pub refused : (answer.number ≡ 0 → ⊥) → Refused b (SlotBreaks b (length rows) (length table)) rows answer rows_after
  pub untouched : (answer.number ≡ 0 → ⊥) → table_after ≡ table
  pub sound : answer.number ≡ 0 → (n p : ℕ) → SlotBreaks b (length rows) (length table) n p → ⊥
  -- where neither 38 nor 39 is broken, all that is demanded of the call without the table: demand 3 with its hypotheses as it stands
  pub as_without : ((n p : ℕ) → SlotTableBroken b (length table) n p → ⊥) → Demands b rows answer rows_after
  -- an acceptance: two to the bit count entries, from slots to rows
  pub tabled : answer.number ≡ 0 → SlotTable (slot_at rows_after) answer.count (2 ^ answer.hash.bits) table table_after
  -- each row is found from the slot of its MPIDR; a RISC-V board has one entry, GAP (02, W7)
  pub found : answer.number ≡ 0 → HasMpidrs b → RowsFound (slot_at rows_after) answer.count (2 ^ answer.hash.bits) table_after
  pub no_slots : answer.number ≡ 0 → b.width ≡ riscv → table_after ≡ gap ∷ drop 1 table
