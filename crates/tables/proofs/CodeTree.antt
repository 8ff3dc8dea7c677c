-- SPDX-License-Identifier: BSD-2-Clause OR GPL-2.0-or-later
-- Ancestors by the parent. Assumes nothing.
use Rattle.std.specs.Prelude.{Some}
use mathlib.Core.Path.{◌≡◌, refl, sym, ap, ◌∙◌}
use mathlib.Core.Bool.{Bool, true, false, cond}
use mathlib.Core.List.{List}
use Prim.Native.Nat.{ℕ, ◌+◌, ◌*◌, ◌≤◌, ◌<◌}
use native.Mathlib.Omega.{arith}
use lib.Dec.{eqb}
use lib.ListN.{get_or}
use borrow.Author.Tests.{ne_eqb, eqb-true, eqb-false}
use Rattle.tables.specs.facts.Board.{parent_word}
use Rattle.tables.specs.answers.Tree.{parent_of, is_below}
use Rattle.tables.specs.steps.Tree.{is_at_or_below}
use Rattle.tables.specs.facts.Tree.{Ancestor}
use Rattle.tables.proofs.CodePool.{word_zero}
use Rattle.tables.proofs.TreeLaws.{parent_is, below_ancestor, below_here, below_parent}

module _ (nodes : List ℕ) where
  -- the parent word compared, as field 0
  pub word_test : (p i w : ℕ) {r : Bool} → w ≡ get_or nodes (3 * i + 0) 0 → r ≡ eqb w p → eqb (parent_word nodes i) p ≡ r
  word_test p i w e t = ap (λ (x : ℕ). eqb x p) (sym (e ∙ word_zero nodes (3 * i))) ∙ sym t

  -- an ancestor's number is smaller
  ancestor_less : {a i : ℕ} → Ancestor nodes a i → a < i
  ancestor_less (Ancestor.parent h) = h.earlier
  ancestor_less (Ancestor.above h t) = omega (arith, ancestor_less t, h.earlier)

  -- a record is below no later one ..
  not_below : (a i : ℕ) → i ≤ a → is_below nodes i a ≡ false
  not_below a i le = go (is_below nodes i a) refl
    where
      go : (t : Bool) → is_below nodes i a ≡ t → is_below nodes i a ≡ false
      go true e = absurd (omega (arith, ancestor_less (below_ancestor nodes a i e)))
      go false e = e

  -- .. so the search ends at a record that is not after a
  pub reach_end : (a p : ℕ) → p ≤ a → eqb p a ≡ is_at_or_below nodes p a
  reach_end a p le = rw (not_below a p le) (alone (eqb p a))
    where
      alone : (t : Bool) → t ≡ cond t true false
      alone true = refl
      alone false = refl

  -- a record after a is not a
  pub reach_on : (a p : ℕ) → a < p → is_below nodes p a ≡ is_at_or_below nodes p a
  reach_on a p lt = rw (ne_eqb p a (λ e. omega arith))

  -- a record is below what its parent is or is below
  pub below_from : (a i p : ℕ) → parent_of nodes i ≡ Some p → is_at_or_below nodes p a ≡ is_below nodes i a
  below_from a i p h = go (eqb p a) refl
    where
      go : (t : Bool) → eqb p a ≡ t → cond t true (is_below nodes p a) ≡ is_below nodes i a
      go true e = let at = parent_is nodes i p h in below_here nodes a i at.0 (at.1 ∙ eqb-true p a e)
      go false e =
          let at = parent_is nodes i p h in
          ap (λ (q : ℕ). is_below nodes q a) (sym at.1) ∙ below_parent nodes a i at.0 (ne_eqb _ _ (λ q. eqb-false p a e (sym at.1 ∙ q)))
