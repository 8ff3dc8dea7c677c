-- SPDX-License-Identifier: BSD-2-Clause OR GPL-2.0-or-later
-- The table from slots to rows (02, W5): its two rules, and what its entries are.
use Rattle.std.specs.Prelude.{◌≡◌, ◌↔◌, List, ℕ, ◌/◌, ◌^◌, ◌≤◌, ◌<◌, length, get_or, drop}
use Rattle.laws.specs.facts.Limits.{max_table_bits}
use Rattle.layout.specs.facts.Row.{row_size, gap, slot_at}

-- a rule is broken at a place, for a hash of so many bits and a table of so many entries
pub data SlotTableRule (bits entries : ℕ) : ℕ → ℕ → Type 0 where
  many_bits : max_table_bits < bits → SlotTableRule bits entries 38 0
  short_table : entries < 2 ^ bits → SlotTableRule bits entries 39 0

-- a table of `size` entries for `count` rows with these slots: the lent words before and after
pub record SlotTable (slot : ℕ → ℕ) (count size : ℕ) (before after : List ℕ) : Type 0 where
  -- an entry that is not GAP names a row with that slot
  pub named : (s : ℕ) → s < size → (get_or after s 0 ≡ gap → ⊥) → (get_or after s 0 < count) × (slot (get_or after s 0) ≡ s)
  -- GAP stands exactly where no row has the slot
  pub gaps : (s : ℕ) → s < size → (get_or after s 0 ≡ gap) ↔ ((k : ℕ) → k < count → slot k ≡ s → ⊥)
  -- the entries are there, and all behind them is as it was
  pub room : size ≤ length after
  pub rest : drop size after ≡ drop size before
  pub kept : length after ≡ length before

-- each row is found from its slot
abbrev pub RowsFound : (slot : ℕ → ℕ) (count size : ℕ) (table : List ℕ) → Type 0
RowsFound slot count size table = (k : ℕ) → k < count → (slot k < size) × (get_or table (slot k) 0 ≡ k)

-- rows that a table can tell apart: no two have one slot, and each slot is below the size
pub record Slotted (slot : ℕ → ℕ) (count size : ℕ) : Type 0 where
  pub distinct : (j k : ℕ) → j < count → k < count → slot j ≡ slot k → j ≡ k
  pub bounded : (k : ℕ) → k < count → slot k < size

-- where neither rule is broken and GAP is no row's number, the table is that of the rows; where it can tell them apart, each is found
abbrev pub Tabled : (rows : List ℕ) (bits : ℕ) (before after : List ℕ) → Type 0
Tabled rows bits before after =
    let count = length rows / row_size in
    ((n p : ℕ) → SlotTableRule bits (length before) n p → ⊥) →
    count ≤ gap →
    SlotTable (slot_at rows) count (2 ^ bits) before after
    × (Slotted (slot_at rows) count (2 ^ bits) → RowsFound (slot_at rows) count (2 ^ bits) after)
