-- SPDX-License-Identifier: BSD-2-Clause OR GPL-2.0-or-later
-- The claim about the call with a table leaves one answer, one row buffer and one table. Assumes nothing.
use mathlib.Core.Path.{◌≡◌, refl, sym, ◌∙◌}
use mathlib.Core.Bool.{Bool, true, false}
use mathlib.Core.Logic.{⊎_elim}
use mathlib.Core.List.{List}
use Prim.Native.Nat.{ℕ}
use lib.Dec.{eqb}
use lib.ListN.{length}
use borrow.Author.Tests.{eqb-true, eqb-false}
use Rattle.slot_table.proofs.UniqueLaws.{slot_table_unique}
use Rattle.laws.proofs.DecideLaws.{decided, eq_decides}
use Rattle.tables.specs.facts.Board.{Board, riscv, HasMpidrs}
use Rattle.demands.specs.facts.Told.{BoardAnswer}
use Rattle.demands.specs.facts.Slots.{SlotTableBroken, SlotBreaks, SlotTableDemands}
use Rattle.demands.proofs.DemandsUnique.{both_refuse, demands_unique}

module _ {b : Board} {rows table : List ℕ} {x y : BoardAnswer} {rx ry tx ty : List ℕ} where
  -- a refusal tells a broken rule, so an acceptance excludes it
  apart :
      {A : Type 0} →
      SlotTableDemands b rows table x rx tx →
      SlotTableDemands b rows table y ry ty →
      x.number ≡ 0 →
      (y.number ≡ 0 → ⊥) →
      A
  apart h g z ne = absurd (h.sound z _ _ (g.refused ne).first.first.broken)

  -- both accept: neither 38 nor 39 is broken, so answer and rows are those without the table
  both_accept :
      SlotTableDemands b rows table x rx tx →
      SlotTableDemands b rows table y ry ty →
      x.number ≡ 0 →
      y.number ≡ 0 →
      (x ≡ y) × (rx ≡ ry) × (tx ≡ ty)
  both_accept h g zx zy =
      let free : (n p : ℕ) → SlotTableBroken b (length table) n p → ⊥ = λ n p r. h.sound zx n p (SlotBreaks.slots r) in
      let same = demands_unique rows (h.as_without free) (g.as_without free) in
      let of_mpidrs : HasMpidrs b → tx ≡ ty = λ has.
      slot_table_unique (rw (same.0, same.1) at (h.tabled zx)) (rw (same.0, same.1) at (h.found zx has)) (g.tabled zy) (g.found zy has) in
      let of_harts : b.width ≡ riscv → tx ≡ ty = λ e. h.no_slots zx e ∙ sym (g.no_slots zy e) in
      (same.0, same.1, ⊎_elim of_harts of_mpidrs (decided (eq_decides b.width riscv)))

pub slot_demands_unique :
    {b : Board} {rows table : List ℕ} {x y : BoardAnswer} {rx ry tx ty : List ℕ} →
    SlotTableDemands b rows table x rx tx →
    SlotTableDemands b rows table y ry ty →
    (x ≡ y) × (rx ≡ ry) × (tx ≡ ty)
slot_demands_unique {b} {rows} {table} {x} {y} {rx} {ry} {tx} {ty} h g = go (eqb x.number 0) refl (eqb y.number 0) refl
  where
    go : (s : Bool) → eqb x.number 0 ≡ s → (t : Bool) → eqb y.number 0 ≡ t → (x ≡ y) × (rx ≡ ry) × (tx ≡ ty)
    go true e true f = both_accept h g (eqb-true x.number 0 e) (eqb-true y.number 0 f)
    go true e false f = apart h g (eqb-true x.number 0 e) (eqb-false y.number 0 f)
    go false e true f = apart g h (eqb-true y.number 0 f) (eqb-false x.number 0 e)
    go false e false f =
        let nx = eqb-false x.number 0 e in
        let ny = eqb-false y.number 0 f in
        let same = both_refuse b rows x y rx ry (SlotBreaks b (length rows) (length table)) (h.refused nx) (g.refused ny) in
        (same.0, same.1, h.untouched nx ∙ sym (g.untouched ny))
