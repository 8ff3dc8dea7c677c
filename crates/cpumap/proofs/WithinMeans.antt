-- SPDX-License-Identifier: BSD-2-Clause OR GPL-2.0-or-later
-- A record and its ancestors: induction on the parent, and their order. Assumes nothing.
use mathlib.Core.Path.{◌≡◌, refl, sym, ap, ◌∙◌}
use mathlib.Core.Bool.{Bool, true, false}
use mathlib.Core.Logic.{◌⊎◌, inr, ⊎_elim}
use mathlib.Core.List.{List}
use Prim.Native.Nat.{ℕ, zero, suc, ◌≤◌, ◌<◌}
use native.Mathlib.Omega.{arith}
use Rattle.laws.proofs.SearchLaws.{true_false}
use Rattle.tables.specs.facts.Board.{node_count, parent_word}
use Rattle.tables.specs.answers.Tree.{has_parent, climb}
use Rattle.tables.specs.facts.Tree.{Child, Ancestor}
use Rattle.tables.proofs.TreeLaws.{has, the_parent, climb_parent}
use Rattle.tables.proofs.DepthLaws.{DepthFirst, ancestor_earlier, ancestor_cases, ancestor_chain, ancestor_trans, has_parent_lem}

-- a is record i or an ancestor of it
abbrev pub Within : List ℕ → ℕ → ℕ → Type 0
Within nodes i a = (a ≡ i) ⊎ Ancestor nodes a i

-- what holds of a record without a parent, and of a record where it holds of its parent, holds of every record
module _ {nodes : List ℕ} where
  pub parent_induction :
      (P : ℕ → Type 0) →
      ((i : ℕ) → has_parent nodes i ≡ false → P i) →
      ((p i : ℕ) → Child nodes p i → P p → P i) →
      (i : ℕ) →
      P i
  parent_induction P top more i = go i i (omega arith)
    where
      step : (i : ℕ) → (parent_word nodes i < i → P (parent_word nodes i)) → (t : Bool) → has_parent nodes i ≡ t → P i
      step i ih true e = let c = the_parent nodes i e in more (parent_word nodes i) i c (ih c.earlier)
      step i ih false e = top i e

      go : (k i : ℕ) → i ≤ k → P i
      go zero i le = step i (λ lt. absurd (omega arith)) (has_parent nodes i) refl
      go (suc k) i le = step i (λ lt. go k (parent_word nodes i) (omega arith)) (has_parent nodes i) refl

  -- the ancestors of a child are its parent and the parent's ancestors
  pub within_above : {p i a : ℕ} → Child nodes p i → Within nodes p a → Ancestor nodes a i
  within_above c = ⊎_elim (λ e. Ancestor.parent (rw e c)) (Ancestor.above c)

  pub above_within : {p i a : ℕ} → Child nodes p i → Ancestor nodes a i → Within nodes p a
  above_within c t = ancestor_cases t c

  pub child_has : {p i : ℕ} → Child nodes p i → has_parent nodes i ≡ true
  child_has {p} {i} c = has nodes i c.inside (rw c.word c.earlier)

  -- a value by recursion on the parent, at a child
  pub climb_child : {A : Type 0} (top : A) (step : ℕ → A → A) {p i : ℕ} → Child nodes p i → climb nodes top step i ≡ step i (climb nodes top step p)
  climb_child top step {p} {i} c = sym (climb_parent nodes top step i (child_has c)) ∙ ap (λ (q : ℕ). step i (climb nodes top step q)) c.word

  -- an ancestor of one of them is one of them
  pub within_trans : {a c i : ℕ} → Ancestor nodes a c → Within nodes i c → Within nodes i a
  within_trans t = ⊎_elim (λ e. inr (rw e at t)) (λ s. inr (ancestor_trans t s))

  -- they are in order: each is an ancestor of the later ones
  pub within_order : {a c i : ℕ} → Within nodes i a → Within nodes i c → a < c → Ancestor nodes a c
  within_order {a} {c} {i} s t lt =
      ⊎_elim
      (λ e. ⊎_elim (λ f. absurd (omega arith)) (λ r. rw e r) s)
      (λ r.
      ⊎_elim
      (λ f. let l = ancestor_earlier r in absurd (omega arith))
      (λ q. ⊎_elim (λ e. absurd (omega arith)) (⊎_elim (λ u. u) (λ u. let l = ancestor_earlier u in absurd (omega arith))) (ancestor_chain q r))
      s)
      t

  pub within_le : {a i : ℕ} → Within nodes i a → a ≤ i
  within_le = ⊎_elim (λ e. omega arith) (λ t. let l = ancestor_earlier t in omega arith)

  module _ (depth : DepthFirst nodes) where
    -- in a depth-first table only record 0 has no parent
    pub top_zero : (i : ℕ) → i < node_count nodes → has_parent nodes i ≡ false → i ≡ 0
    top_zero zero lt e = refl
    top_zero (suc i) lt e = true_false (child_has (has_parent_lem depth i lt)) e
