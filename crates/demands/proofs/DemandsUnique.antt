-- SPDX-License-Identifier: BSD-2-Clause OR GPL-2.0-or-later
-- The demands leave one answer and one buffer: two that both meet them, of one board and one buffer before, are equal. Assumes nothing.
use mathlib.Core.Path.{◌≡◌, refl, sym, ap, ap₂, ◌∙◌}
use mathlib.Core.Bool.{Bool, true, false}
use mathlib.Core.List.{List, ◌++◌}
use Prim.Native.Nat.{ℕ, ◌*◌}
use lib.Dec.{eqb}
use lib.ListN.{length, take, drop, take-append-drop}
use borrow.Author.Tests.{eqb-true, eqb-false}
use Rattle.laws.proofs.FirstLaws.{first_unique}
use Rattle.laws.proofs.ListingLaws.{listing_unique}
use Rattle.layout.specs.facts.Row.{row_size}
use Rattle.affinity.specs.declared.Hash.{Hash}
use Rattle.tables.specs.facts.Board.{Board}
use Rattle.wellformed.specs.facts.Order.{stage}
use Rattle.wellformed.specs.facts.Rules.{WellFormed}
use Rattle.rows.proofs.FitUnique.{board_hash_unique}
use Rattle.demands.specs.facts.Told.{BoardAnswer}
use Rattle.demands.specs.facts.Rules.{Breaks}
use Rattle.demands.specs.facts.Reading.{Refused, Accepted, Demands}

-- an answer is its five parts
abbrev answer : ℕ → ℕ → ℕ → ℕ → Hash → BoardAnswer
answer number place second count hash = record { number = number; place = place; second = second; count = count; hash = hash }

module _ (b : Board) (before : List ℕ) (x y : BoardAnswer) (after other : List ℕ) where
  abbrev Same : Type 0
  Same = (x ≡ y) × (after ≡ other)

  parts : x.number ≡ y.number → x.place ≡ y.place → x.second ≡ y.second → x.count ≡ y.count → x.hash ≡ y.hash → x ≡ y
  parts n p s c h =
      ap₂ (λ (v w : ℕ). answer v w x.second x.count x.hash) n p
      ∙ ap (λ (v : ℕ). answer y.number y.place v x.count x.hash) s
      ∙ ap₂ (λ (v : ℕ) (w : Hash). answer y.number y.place y.second v w) c h

  -- both refuse: the first broken rule is one, and all else is 0 or as before
  pub both_refuse : (Rule : ℕ → ℕ → Type 0) → Refused b Rule before x after → Refused b Rule before y other → Same
  both_refuse Rule h g =
      let told = first_unique stage Rule _ _ _ _ h.first.first g.first.first in
      let second = (g.second x.second).0 (rw (← told.0, ← told.1) ((h.second x.second).1 refl)) in
      (parts told.0 told.1 second (h.count ∙ sym g.count) (h.hash ∙ sym g.hash), h.buffer ∙ sym g.buffer)

  -- both accept: the cpu records, the hash and the rows that fit are one each
  both_accept : WellFormed b → x.number ≡ 0 → y.number ≡ 0 → Accepted b before x after → Accepted b before y other → Same
  both_accept well zx zy h g =
      let cpus = listing_unique h.count.0 g.count.0 h.count.1 g.count.1 in
      let count : x.count ≡ y.count = h.count.2 ∙ ap length cpus ∙ sym g.count.2 in
      let hash : x.hash ≡ y.hash = board_hash_unique well h.hash g.hash in
      let rows : take (row_size * x.count) after ≡ take (row_size * y.count) other = g.only (take (row_size * x.count) after) h.fits in
      let rest : drop (row_size * x.count) after ≡ drop (row_size * y.count) other =
      h.rest ∙ ap (λ (n : ℕ). drop (row_size * n) before) count ∙ sym g.rest in (
        parts (zx ∙ sym zy) (h.place ∙ sym g.place) (h.second ∙ sym g.second) count hash,
        sym (take-append-drop (row_size * x.count) after)
            ∙ ap₂ (λ (l m : List ℕ). l ++ m) rows rest
            ∙ take-append-drop (row_size * y.count) other,
      )

-- a refusal tells a broken rule, so an acceptance excludes it
apart :
    {A : Type 0} {b : Board} {before : List ℕ} {x y : BoardAnswer} {after other : List ℕ} →
    Demands b before x after →
    Demands b before y other →
    x.number ≡ 0 →
    (y.number ≡ 0 → ⊥) →
    A
apart h g z ne = absurd (h.sound z _ _ (g.refused ne).first.first.broken)

-- no rule is broken of an accepted board, so the hypotheses of demand 3 hold
pub accepted : {b : Board} {before after : List ℕ} {z : BoardAnswer} → Demands b before z after → z.number ≡ 0 → Accepted b before z after
accepted d z =
    let none = d.sound z in
    (d.reading (λ n p r. none n p (Breaks.tables r)) (λ n p r. none n p (Breaks.cpus r)) (none 27 0)).accepted z

pub demands_unique :
    {b : Board} (before : List ℕ) {x y : BoardAnswer} {after other : List ℕ} →
    Demands b before x after →
    Demands b before y other →
    (x ≡ y) × (after ≡ other)
demands_unique {b} before {x} {y} {after} {other} h g = go (eqb x.number 0) refl (eqb y.number 0) refl
  where
    go : (s : Bool) → eqb x.number 0 ≡ s → (t : Bool) → eqb y.number 0 ≡ t → (x ≡ y) × (after ≡ other)
    go true e true f =
        let zx = eqb-true x.number 0 e in
        let zy = eqb-true y.number 0 f in
        both_accept b before x y after other (λ n p r. h.sound zx n p (Breaks.tables r)) zx zy (accepted h zx) (accepted g zy)
    go true e false f = apart h g (eqb-true x.number 0 e) (eqb-false y.number 0 f)
    go false e true f = apart g h (eqb-true y.number 0 f) (eqb-false x.number 0 e)
    go false e false f =
        both_refuse b before x y after other (Breaks b (length before))
        (h.refused (eqb-false x.number 0 e))
        (g.refused (eqb-false y.number 0 f))
