-- SPDX-License-Identifier: BSD-2-Clause OR GPL-2.0-or-later
-- Ancestors, and the order of records in a depth-first table. Assumes nothing.
use mathlib.Core.Path.{◌≡◌, refl, sym, ◌∙◌}
use mathlib.Core.Bool.{true, false}
use mathlib.Core.Logic.{◌⊎◌, inl, inr, ⊎_elim}
use mathlib.Core.List.{List}
use Prim.Native.Nat.{ℕ, zero, suc, ◌≤◌, ◌<◌}
use native.Mathlib.Nat.{eq-or-lt_of_le, le_of_suc-le-suc}
use native.Mathlib.Omega.{arith}
use Rattle.laws.proofs.SearchLaws.{true_false}
use Rattle.laws.proofs.TestLaws.{false_unless}
use Rattle.tables.specs.facts.Board.{node_count, parent_word}
use Rattle.tables.specs.answers.Tree.{is_below}
use Rattle.tables.specs.facts.Tree.{Child, Ancestor}
use Rattle.tables.proofs.TreeLaws.{ancestor_below, below_ancestor}

-- each record's parent is the record before it or an ancestor of the record before it
abbrev pub DepthFirst : List ℕ → Type 0
DepthFirst nodes = (i : ℕ) → suc i < node_count nodes → (parent_word nodes (suc i) ≡ i) ⊎ Ancestor nodes (parent_word nodes (suc i)) i

module _ {nodes : List ℕ} where
  -- a record has one parent
  pub child_unique : {p q i : ℕ} → Child nodes p i → Child nodes q i → p ≡ q
  child_unique c d = sym c.word ∙ d.word

  -- a record whose parent word names the record before it
  next_child : {p : ℕ} → suc p < node_count nodes → parent_word nodes (suc p) ≡ p → Child nodes p (suc p)
  next_child lt e = record { inside = lt; word = e; earlier = omega arith }

  -- an ancestor is an earlier record, and what is below it is in the table
  pub ancestor_earlier : {a i : ℕ} → Ancestor nodes a i → a < i
  ancestor_earlier (Ancestor.parent c) = c.earlier
  ancestor_earlier (Ancestor.above c t) = omega (arith, ancestor_earlier t)

  pub ancestor_inside : {a i : ℕ} → Ancestor nodes a i → i < node_count nodes
  ancestor_inside (Ancestor.parent c) = c.inside
  ancestor_inside (Ancestor.above c t) = c.inside

  pub ancestor_trans : {a p i : ℕ} → Ancestor nodes a p → Ancestor nodes p i → Ancestor nodes a i
  ancestor_trans s (Ancestor.parent c) = Ancestor.above c s
  ancestor_trans s (Ancestor.above c t) = Ancestor.above c (ancestor_trans s t)

  -- an ancestor is the parent or an ancestor of the parent
  pub ancestor_cases : {a p i : ℕ} → Ancestor nodes a i → Child nodes p i → (a ≡ p) ⊎ Ancestor nodes a p
  ancestor_cases (Ancestor.parent c) d = inl (child_unique c d)
  ancestor_cases (Ancestor.above c t) d = inr (rw (child_unique c d) at t)

  -- of two ancestors of a record, one is an ancestor of the other or they are the same
  pub ancestor_chain : {a p i : ℕ} → Ancestor nodes a i → Ancestor nodes p i → (a ≡ p) ⊎ (Ancestor nodes a p ⊎ Ancestor nodes p a)
  ancestor_chain (Ancestor.parent c) s = ⊎_elim (λ e. inl (sym e)) (λ t. inr (inr t)) (ancestor_cases s c)
  ancestor_chain (Ancestor.above c t) s = ⊎_elim (λ e. inr (inl (rw e t))) (ancestor_chain t) (ancestor_cases s c)

  -- what the ancestor test says
  pub below_test : (a i : ℕ) → (is_below nodes i a ≡ true → Ancestor nodes a i) × (Ancestor nodes a i → is_below nodes i a ≡ true)
  below_test a i = (below_ancestor nodes a i, ancestor_below nodes)

  pub not_below_test : (a i : ℕ) → (is_below nodes i a ≡ false → Ancestor nodes a i → ⊥) × ((Ancestor nodes a i → ⊥) → is_below nodes i a ≡ false)
  not_below_test a i =
      (λ e t. true_false (ancestor_below nodes t) e, λ none. false_unless (is_below nodes i a) (λ e. none (below_ancestor nodes a i e)))

  module _ (depth : DepthFirst nodes) where
    -- every record but the first has a parent
    pub has_parent_lem : (i : ℕ) → suc i < node_count nodes → Child nodes (parent_word nodes (suc i)) (suc i)
    has_parent_lem i lt =
        record { inside = lt; word = refl; earlier = ⊎_elim (λ e. omega arith) (λ t. omega (arith, ancestor_earlier t)) (depth i lt) }

    -- what is below p goes back without a gap ..
    before : {p : ℕ} (i : ℕ) → Ancestor nodes p (suc i) → p < i → Ancestor nodes p i
    before i s lt =
        ⊎_elim
        (λ e. ⊎_elim (λ q. absurd (omega arith)) (λ t. rw e t) at_parent)
        (λ t. ⊎_elim (λ q. rw q at t) (ancestor_trans t) at_parent)
        (ancestor_cases s (has_parent_lem i inside))
      where
        inside : suc i < node_count nodes
        inside = ancestor_inside s

        at_parent : (parent_word nodes (suc i) ≡ i) ⊎ Ancestor nodes (parent_word nodes (suc i)) i
        at_parent = depth i inside

    -- .. so the records below p are an unbroken run after p
    pub run : {p i : ℕ} → Ancestor nodes p i → (j : ℕ) → p < j → j ≤ i → Ancestor nodes p j
    run {p} {i} s j l = go i s
      where
        go : (i : ℕ) → Ancestor nodes p i → j ≤ i → Ancestor nodes p j
        go zero s m = absurd (omega arith)
        go (suc i) s m = ⊎_elim (λ e. rw e s) (λ k. go i (before i s (omega arith)) (le_of_suc-le-suc k)) (eq-or-lt_of_le m)

    -- the first child of p, if any, is record p + 1
    pub first_child : {p i : ℕ} → Child nodes p i → Child nodes p (suc p)
    first_child {p} {i} c =
        ⊎_elim (λ e. next_child next.inside (sym e)) (λ t. let l = ancestor_earlier t in let m = next.earlier in absurd (omega arith))
        (ancestor_cases below next)
      where
        below : Ancestor nodes p (suc p)
        below = run (Ancestor.parent c) (suc p) (omega arith) c.earlier

        next : Child nodes (parent_word nodes (suc p)) (suc p)
        next = has_parent_lem p (ancestor_inside below)
