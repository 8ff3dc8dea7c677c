-- SPDX-License-Identifier: BSD-2-Clause OR GPL-2.0-or-later
-- The property noted for a node: none before it is of that node. Assumes nothing.
use mathlib.Core.Path.{◌≡◌, refl, sym, ap, ◌∙◌}
use mathlib.Core.Bool.{Bool, true, false}
use mathlib.Core.List.{List}
use mathlib.Core.Logic.{⊎_elim}
use Prim.Native.Nat.{ℕ, ◌+◌, ◌≤◌, ◌<◌, min}
use native.Mathlib.Omega.{arith}
use lib.Dec.{eqb}
use lib.ListN.{length, get_or, set}
use lib.Seq.{get_or-set_same, get_or-set_other}
use borrow.Author.Tests.{eqb-true, eqb-false}
use Rattle.laws.specs.answers.Search.{any_below}
use Rattle.laws.proofs.SearchLaws.{any_place, lt_or_le}
use Rattle.laws.proofs.TestLaws.{both_true, false_unless}
use Rattle.tables.specs.facts.Board.{prop_node}
use Rattle.records.specs.answers.Check.{same_property}
use Rattle.records.specs.steps.Starts.{place_of}

-- the property noted at a node's place
abbrev noted : List ℕ → ℕ → ℕ
noted starts node = get_or starts (place_of node) 0

-- each property below k stands at or behind the one noted for its node
unfoldable pub Noted : List ℕ → List ℕ → ℕ → Type 0
Noted props starts k = (j : ℕ) → j < k → noted starts (prop_node props j) ≤ j

module _
    (props starts : List ℕ)
    (k : ℕ)
    (before : Noted props starts k)
    {node first : ℕ}
    (n : node ≡ prop_node props k)
    (f : first ≡ min (noted starts node) k)
  where
    -- a property at the node's place, and one at another
    here : (j : ℕ) → j < k + 1 → place_of (prop_node props j) ≡ place_of node → first ≤ j
    unfolding Noted
    here j lt place =
        ⊎_elim (λ l. omega (arith, f, ap (λ (m : ℕ). get_or starts m 0) place, before j l)) (λ l. omega (arith, f)) (lt_or_le j k)

    elsewhere : (j : ℕ) → j < k + 1 → (place_of (prop_node props j) ≡ place_of node → ⊥) → j < k
    elsewhere j lt other = ⊎_elim (λ l. l) last (lt_or_le j k)
      where
        last : k ≤ j → j < k
        last le = let q : j ≡ k = omega arith in absurd (other (ap (λ (i : ℕ). place_of (prop_node props i)) q ∙ ap place_of (sym n)))

    -- with property k noted
    pub noted_more : length starts ≡ 1024 → Noted props (set starts (place_of node) first) (k + 1)
    unfolding Noted
    noted_more size j lt = go (eqb (place_of (prop_node props j)) (place_of node)) refl
      where
        go : (b : Bool) → eqb (place_of (prop_node props j)) (place_of node) ≡ b → noted (set starts (place_of node) first) (prop_node props j) ≤ j
        go true e =
            let same = eqb-true (place_of (prop_node props j)) (place_of node) e in
            rw (same, get_or-set_same starts (place_of node) first 0 (omega (arith, size))) (here j lt same)
        go false e =
            let other = eqb-false (place_of (prop_node props j)) (place_of node) e in
            rw (get_or-set_other starts (place_of node) (place_of (prop_node props j)) first 0 other) (before j (elsewhere j lt other))

    -- none before the one noted repeats property k
    pub none_before : (pool : List ℕ) → any_below (same_property props pool k) first ≡ false
    unfolding Noted same_property
    none_before pool =
        false_unless _ (λ e.
        let t = any_place (same_property props pool k) first e in
        let j = t.0 in
        let same = eqb-true (prop_node props j) (prop_node props k) (both_true (eqb (prop_node props j) (prop_node props k)) t.2).0 in
        let place = ap (noted starts) (same ∙ sym n) in
        omega (arith, f, t.1, place, before j (omega (arith, f, t.1))))
