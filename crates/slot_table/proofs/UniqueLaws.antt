-- SPDX-License-Identifier: BSD-2-Clause OR GPL-2.0-or-later
-- The facts of a table leave one: two that both meet them, of one table before, are equal. Assumes nothing.
use mathlib.Core.Path.{◌≡◌, sym, ap, ◌∙◌}
use mathlib.Core.Logic.{⊎_elim}
use mathlib.Core.List.{List}
use Prim.Native.Nat.{ℕ, ◌-◌, ◌<◌, ◌≤◌}
use native.Mathlib.Omega.{arith}
use lib.ListN.{get_or, drop}
use lib.Seq.{get_or-drop, ext_get_or}
use Rattle.laws.proofs.SearchLaws.{lt_or_le}
use Rattle.laws.proofs.DecideLaws.{decided, eq_decides}
use Rattle.layout.specs.facts.Row.{gap}
use Rattle.slot_table.specs.facts.SlotTable.{SlotTable, RowsFound}

module _ {slot : ℕ → ℕ} {count size : ℕ} {before : List ℕ} where
  -- an entry that names a row is the same in both
  same_row :
      {x : List ℕ} (y : List ℕ) → SlotTable slot count size before x → RowsFound slot count size y →
      (s : ℕ) → s < size → (get_or x s 0 ≡ gap → ⊥) → get_or y s 0 ≡ get_or x s 0
  same_row {x} y h g s lt ne =
      let row = h.named s lt ne in
      ap (λ (i : ℕ). get_or y i 0) (sym row.1) ∙ (g (get_or x s 0) row.0).1

  pub slot_table_unique :
      {x y : List ℕ} →
      SlotTable slot count size before x → RowsFound slot count size x →
      SlotTable slot count size before y → RowsFound slot count size y →
      x ≡ y
  slot_table_unique {x} {y} h found_x g found_y = ext_get_or 0 x y (h.kept ∙ sym g.kept) (λ i _. ⊎_elim (inside i) (behind i) (lt_or_le i size))
    where
      inside : (i : ℕ) → i < size → get_or x i 0 ≡ get_or y i 0
      inside i lt =
          ⊎_elim
          (λ e. ⊎_elim (λ q. e ∙ sym q) (same_row x g found_x i lt) (decided (eq_decides (get_or y i 0) gap)))
          (λ ne. sym (same_row y h found_y i lt ne))
          (decided (eq_decides (get_or x i 0) gap))

      from : (z : List ℕ) (i : ℕ) → size ≤ i → get_or (drop size z) (i - size) 0 ≡ get_or z i 0
      from z i le = get_or-drop size z (i - size) 0 ∙ ap (λ (k : ℕ). get_or z k 0) (omega arith)

      behind : (i : ℕ) → size ≤ i → get_or x i 0 ≡ get_or y i 0
      behind i le = sym (from x i le) ∙ ap (λ (l : List ℕ). get_or l (i - size) 0) (h.rest ∙ sym g.rest) ∙ from y i le
