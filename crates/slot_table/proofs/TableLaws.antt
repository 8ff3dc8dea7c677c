-- SPDX-License-Identifier: BSD-2-Clause OR GPL-2.0-or-later
-- Rows entered in a table: its length, what each entry holds, and where each row is found. Assumes nothing.
use mathlib.Core.Path.{◌≡◌, refl, sym, ap, ap₂, ◌∙◌}
use mathlib.Core.Bool.{Bool, true, false, cond}
use mathlib.Core.Logic.{◌⊎◌, inl, inr, ⊎_elim}
use mathlib.Core.List.{List, [], ◌∷◌, ◌++◌}
use Prim.Native.Nat.{ℕ, zero, suc, ◌+◌, ◌*◌, ◌/◌, ◌%◌, ◌^◌, ◌≤◌, ◌<◌}
use native.Mathlib.Nat.{eq-or-lt_of_le, le_of_suc-le-suc}
use native.Mathlib.Numerals.{add-one}
use native.Mathlib.Omega.{arith}
use lib.Dec.{ltb}
use lib.ListN.{length, get_or, take, drop, set, take-append-drop, replicate}
use lib.ListN.{length-set, length-append, length-drop, length-replicate, get_or-replicate, get_or-append}
use lib.Seq.{take_at, drop_at, drop-drop, length-take-le, get_or-set_same, get_or-set_other, get_or-drop, ext_get_or, get_or-append-add}
use borrow.Author.Tests.{lt-ltb, le-ltb, ltb-true, eq-eqb}
use Rattle.laws.proofs.BlockLaws.{block_front}
use Rattle.laws.proofs.DecideLaws.{decided, eq_decides}
use Rattle.layout.specs.facts.Row.{row_size, gap, row_slot, slot_at}
use Rattle.slot_table.specs.facts.SlotTable.{SlotTableRule, SlotTable, RowsFound, Slotted}
use Rattle.slot_table.specs.answers.Table.{blank, entered_below, filled}
use Rattle.slot_table.proofs.FaultLaws.{entries_clear, entries_sound}

module _ (slot : ℕ → ℕ) (size : ℕ) (table : List ℕ) where
  abbrev entered : ℕ → List ℕ
  entered n = entered_below slot size n table

  pub entered_length : (n : ℕ) → length (entered n) ≡ length table
  unfolding entered_below
  entered_length zero = refl
  entered_length (suc n) = go (ltb (slot n) size) (entered_length n)
    where
      go : (t : Bool) → length (entered n) ≡ length table → length (cond t (set (entered n) (slot n) (n % 2 ^ 32)) (entered n)) ≡ length table
      go true h = length-set (entered n) (slot n) (n % 2 ^ 32) ∙ h
      go false h = h

  -- what an entry holds: what stood there, or a row with that slot, below the size
  abbrev Entry : ℕ → ℕ → ℕ → Type 0
  Entry n s v = (v ≡ get_or table s 0) ⊎ ((v < n) × (slot v ≡ s) × (s < size))

  entry_more : (n s v : ℕ) → Entry n s v → Entry (suc n) s v
  entry_more n s v = ⊎_elim inl (λ w. inr (omega (arith, w.0), w.1, w.2))

  entered_names : (n s : ℕ) → n ≤ gap → s < length table → Entry n s (get_or (entered n) s 0)
  unfolding entered_below
  entered_names zero s few lt = inl refl
  entered_names (suc n) s few lt =
      go (ltb (slot n) size) refl (entry_more n s (get_or (entered n) s 0) (entered_names n s (omega arith) lt))
    where
      go :
          (t : Bool) →
          ltb (slot n) size ≡ t →
          Entry (suc n) s (get_or (entered n) s 0) →
          Entry (suc n) s (get_or (cond t (set (entered n) (slot n) (n % 2 ^ 32)) (entered n)) s 0)
      go false e h = h
      go true e h =
          ⊎_elim
          (λ q.
          let value : get_or (set (entered n) (slot n) (n % 2 ^ 32)) s 0 ≡ n =
          ap (λ (i : ℕ). get_or (set (entered n) i (n % 2 ^ 32)) s 0) q
          ∙ get_or-set_same (entered n) s (n % 2 ^ 32) 0 (rw (entered_length n) lt) ∙ omega arith in
          rw value (inr (omega arith, q, rw q at (ltb-true (slot n) size e))))
          (λ ne. rw (get_or-set_other (entered n) (slot n) s (n % 2 ^ 32) 0 (λ q. ne (sym q))) h)
          (decided (eq_decides (slot n) s))

  -- the entry at the slot of a row below n is a row below n
  entered_row : (n : ℕ) → n ≤ gap → size ≤ length table → (k : ℕ) → k < n → slot k < size → get_or (entered n) (slot k) 0 < n
  unfolding entered_below
  entered_row zero few room k lt in_size = absurd (omega arith)
  entered_row (suc n) few room k lt in_size =
      ⊎_elim own
      (λ ne. other ne (ltb (slot n) size) (entered_row n (omega arith) room k (earlier ne) in_size))
      (decided (eq_decides (slot n) (slot k)))
    where
      own : slot n ≡ slot k → get_or (cond (ltb (slot n) size) (set (entered n) (slot n) (n % 2 ^ 32)) (entered n)) (slot k) 0 < suc n
      own q =
          rw (lt-ltb (slot n) size (rw q in_size), q, get_or-set_same (entered n) (slot k) (n % 2 ^ 32) 0 (rw (entered_length n) (omega arith)))
          (omega arith)

      earlier : (slot n ≡ slot k → ⊥) → k < n
      earlier ne = ⊎_elim (λ e. absurd (ne (ap slot (sym e)))) (λ l. l) (eq-or-lt_of_le (le_of_suc-le-suc lt))

      other :
          (slot n ≡ slot k → ⊥) →
          (t : Bool) →
          get_or (entered n) (slot k) 0 < n →
          get_or (cond t (set (entered n) (slot n) (n % 2 ^ 32)) (entered n)) (slot k) 0 < suc n
      other ne true h = rw (get_or-set_other (entered n) (slot n) (slot k) (n % 2 ^ 32) 0 (λ q. ne (sym q))) (omega arith)
      other ne false h = omega arith

-- one row off the front of those that are left
module _ (rows : List ℕ) (k : ℕ) (row rest : List ℕ) (left : drop (row_size * k) rows ≡ row ++ rest) (whole : length row ≡ row_size) where
  pub row_rest : rest ≡ drop (row_size * (k + 1)) rows
  row_rest =
      let next : row_size * (k + 1) ≡ row_size * k + row_size = omega arith in
      rw (next, ← drop-drop row_size (row_size * k) rows, left) (sym (drop_at row rest row_size whole))

  pub row_within : row_size * k ≤ length rows → row_size * (k + 1) ≤ length rows
  row_within le = omega (arith, length-drop (row_size * k) rows, ap length left, length-append row rest, whole)

  pub row_slot_at : get_or row 11 0 ≡ slot_at rows k
  row_slot_at = rw (left, take_at row rest row_size whole)

-- one row more
module _ (slot : ℕ → ℕ) (size k : ℕ) (before : List ℕ) {table : List ℕ} (entered_so_far : table ≡ entered_below slot size k before) where
  pub entered_yes : slot k < size → set table (slot k) (k % 2 ^ 32) ≡ entered_below slot size (k + 1) before
  unfolding entered_below
  entered_yes lt = rw (add-one k, lt-ltb (slot k) size lt, entered_so_far)

  pub entered_no : size ≤ slot k → table ≡ entered_below slot size (k + 1) before
  unfolding entered_below
  entered_no le = rw (add-one k, le-ltb (slot k) size le) entered_so_far

-- the whole table
module _ (slot : ℕ → ℕ) (count size : ℕ) (before : List ℕ) (room : size ≤ length before) (few : count ≤ gap) where
  abbrev marked : List ℕ
  marked = blank size before

  abbrev after : List ℕ
  after = entered_below slot size count marked

  marked_length : length marked ≡ length before
  marked_length =
      length-append (replicate {A = ℕ} size gap) (drop size before)
      ∙ rw (length-replicate {A = ℕ} size gap, length-drop size before) (omega arith)

  marked_gap : (s : ℕ) → s < size → get_or marked s 0 ≡ gap
  marked_gap s lt =
      get_or-append (replicate {A = ℕ} size gap) (drop size before) 0 s (rw (length-replicate {A = ℕ} size gap) lt)
      ∙ get_or-replicate {A = ℕ} size s gap 0 lt

  after_length : length after ≡ length before
  after_length = entered_length slot size marked count ∙ marked_length

  entry : (s : ℕ) → s < size → Entry slot size marked count s (get_or after s 0)
  entry s lt = entered_names slot size marked count s few (rw marked_length (omega arith))

  -- a row's own entry is not GAP
  taken : (k : ℕ) → k < count → slot k < size → get_or after (slot k) 0 < count
  taken = entered_row slot size marked count few (rw marked_length room)

  -- the entries behind the table's
  rest : drop size after ≡ drop size before
  rest = ext_get_or 0 (drop size after) (drop size before) lengths later
    where
      lengths : length (drop size after) ≡ length (drop size before)
      lengths = rw (length-drop size after, length-drop size before, after_length)

      later : (i : ℕ) → i < length (drop size after) → get_or (drop size after) i 0 ≡ get_or (drop size before) i 0
      later i lt =
          get_or-drop size after i 0
          ∙ ⊎_elim (λ e. e) (λ w. absurd (omega (arith, w.2))) (entered_names slot size marked count (size + i) few inside)
          ∙ ap (λ (k : ℕ). get_or marked (k + i) 0) (sym (length-replicate {A = ℕ} size gap))
          ∙ get_or-append-add (replicate {A = ℕ} size gap) (drop size before) i 0
        where
          inside : size + i < length marked
          inside = rw marked_length (omega (arith, rw (length-drop size after, after_length) at lt))

  pub slot_table_lem : SlotTable slot count size before after
  slot_table_lem =
      record {
        named = λ s lt ne. ⊎_elim (λ e. absurd (ne (e ∙ marked_gap s lt))) (λ w. (w.0, w.1)) (entry s lt);
        gaps = λ s lt. (
          λ e k l q. omega (arith, taken k l (rw q lt), ap (λ (i : ℕ). get_or after i 0) q ∙ e, few),
          λ none. ⊎_elim (λ e. e ∙ marked_gap s lt) (λ w. absurd (none (get_or after s 0) w.0 w.1)) (entry s lt),
        );
        room = rw after_length room;
        rest = rest;
        kept = after_length;
      }

-- rows that a table can tell apart are found in it
pub table_found :
    {slot : ℕ → ℕ} {count size : ℕ} {before after : List ℕ} →
    SlotTable slot count size before after →
    Slotted slot count size →
    RowsFound slot count size after
table_found {slot} {count} {size} {before} {after} h rows k lt =
    let in_size = rows.bounded k lt in
    let row = h.named (slot k) in_size (λ e. (h.gaps (slot k) in_size).0 e k lt refl) in
    (in_size, rows.distinct (get_or after (slot k) 0) k row.0 lt row.1)

-- where no row has a slot, a table of one entry has GAP there
pub one_gap :
    {slot : ℕ → ℕ} {count : ℕ} {before after : List ℕ} →
    SlotTable slot count 1 before after →
    ((k : ℕ) → k < count → slot k ≡ gap) →
    after ≡ gap ∷ drop 1 before
one_gap {slot} {count} {before} {after} h none =
    split after h.room ((h.gaps 0 (omega arith)).1 (λ k lt e. omega (arith, none k lt))) h.rest
  where
    split : (l : List ℕ) → 1 ≤ length l → get_or l 0 0 ≡ gap → drop 1 l ≡ drop 1 before → l ≡ gap ∷ drop 1 before
    split [] le e r = absurd (omega arith)
    split (x ∷ l) le e r = ap₂ (λ (y : ℕ) (m : List ℕ). y ∷ m) e r

-- rows at the front of a buffer: their table
module _ (rows : List ℕ) (count : ℕ) (whole : row_size * count ≤ length rows) where
  abbrev front : List ℕ
  front = take (row_size * count) rows

  front_length : length front ≡ row_size * count
  front_length = length-take-le (row_size * count) rows whole

  front_slot : (k : ℕ) → k < count → slot_at front k ≡ slot_at rows k
  front_slot k lt =
      ap row_slot (sym (block_front row_size front (drop (row_size * count) rows) count k front_length lt))
      ∙ ap (λ (l : List ℕ). slot_at l k) (take-append-drop (row_size * count) rows)

  module _ {size : ℕ} where
    rows_table : {before after : List ℕ} → SlotTable (slot_at front) count size before after → SlotTable (slot_at rows) count size before after
    rows_table {before} {after} h =
        record {
          named = λ s lt ne. let row = h.named s lt ne in (row.0, sym (front_slot _ row.0) ∙ row.1);
          gaps = λ s lt. (
            λ e k l q. (h.gaps s lt).0 e k l (front_slot k l ∙ q),
            λ none. (h.gaps s lt).1 (λ k l q. none k l (sym (front_slot k l) ∙ q)),
          );
          room = h.room;
          rest = h.rest;
          kept = h.kept;
        }

  pub filled_table :
      (bits : ℕ) (before : List ℕ) →
      ((n p : ℕ) → SlotTableRule bits (length before) n p → ⊥) →
      count ≤ gap →
      SlotTable (slot_at rows) count (2 ^ bits) before (filled front bits before)
  unfolding filled
  filled_table bits before none few =
      let clear = entries_sound bits (length before) none in
      let many : length front / row_size ≡ count = omega (arith, front_length) in
      rw (eq-eqb _ 0 clear, many)
      (rows_table (slot_table_lem (slot_at front) count (2 ^ bits) before (entries_clear bits (length before) clear).1 few))
