-- SPDX-License-Identifier: BSD-2-Clause OR GPL-2.0-or-later
-- The depth-first rule, by the parent word and the ancestor test. Assumes nothing.
use mathlib.Core.Path.{◌≡◌, refl, ap, ◌∙◌}
use mathlib.Core.Bool.{true, cond}
use mathlib.Core.List.{List}
use Prim.Native.Nat.{ℕ, zero, suc, ◌+◌, ◌-◌, ◌*◌}
use native.Mathlib.Omega.{arith}
use lib.Dec.{eqb}
use lib.ListN.{get_or}
use Rattle.laws.specs.facts.Limits.{no_parent}
use Rattle.tables.specs.facts.Board.{parent_word}
use Rattle.tables.specs.answers.Tree.{is_below}
use Rattle.tables.proofs.CodePool.{word_zero}
use Rattle.records.specs.answers.Check.{sound_parent}

module _ (nodes : List ℕ) where
  -- the depth-first rule of the first record and of a later one, whose parent word is w
  pub sound_first : (i w : ℕ) → i ≡ 0 → w ≡ get_or nodes (3 * i + 0) 0 → eqb w no_parent ≡ sound_parent nodes i
  unfolding sound_parent
  sound_first zero w z e = ap (λ (x : ℕ). eqb x no_parent) e
  sound_first (suc i) w z e = absurd (omega arith)

  pub sound_later : (i w : ℕ) → (i ≡ 0 → ⊥) → w ≡ get_or nodes (3 * i + 0) 0 → cond (eqb w (i - 1)) true (is_below nodes (i - 1) w) ≡ sound_parent nodes i
  unfolding sound_parent
  sound_later zero w ne e = absurd (ne refl)
  sound_later (suc i) w ne e =
      let before : suc i - 1 ≡ i = omega arith in
      let word : w ≡ parent_word nodes (suc i) = e ∙ word_zero nodes (3 * suc i) in
      rw before (ap (λ (x : ℕ). cond (eqb x i) true (is_below nodes i x)) word)
