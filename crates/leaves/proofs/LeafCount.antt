-- SPDX-License-Identifier: BSD-2-Clause OR GPL-2.0-or-later
-- The records that the check answers as leaves: which they are, and that there are no more of them than cpus. Assumes nothing.
use mathlib.Core.Path.{◌≡◌, refl, ap}
use mathlib.Core.Bool.{Bool, true, false, cond}
use Prim.Native.Nat.{ℕ, ◌≤◌, ◌<◌}
use native.Mathlib.Omega.{arith}
use lib.Dec.{eqb}
use lib.ListN.{length}
use borrow.Author.Tests.{eq-eqb, eqb-true}
use Rattle.laws.specs.answers.Fault.{clear, first_fault}
use Rattle.laws.specs.answers.Search.{list_below}
use Rattle.laws.proofs.SearchLaws.{true_false, any_at, any_place}
use Rattle.laws.proofs.TestLaws.{both_true}
use Rattle.laws.proofs.FaultLaws.{below_clear, or_number_zero}
use Rattle.laws.proofs.ListingLaws.{listed}
use Rattle.laws.proofs.IndexLaws.{listing_below}
use Rattle.laws.specs.facts.Limits.{max_cpus}
use Rattle.leaves.specs.facts.Told.{RecordCheck}
use Rattle.leaves.specs.answers.Scan.{Tree, check, is_leaf, cpu_of, named_below, repeat_fault, tree_fault}
use Rattle.leaves.proofs.CheckCases.{shape_of, named, Answers, Checked, checked}

-- a record that the check answers as a leaf
pub record Naming (t : Tree) (i : ℕ) : Type 0 where
  pub leaf : (shape_of t i).leaf ≡ true
  pub cpu : cpu_of t i ≡ named t i
  pub inside : cpu_of t i < length t.phandles
  pub number : (check t i).number ≡ 0

module _ (t : Tree) where
  not_leaf : {v s : ℕ} (i : ℕ) → Answers t i v s → is_leaf t i ≡ true → Naming t i
  not_leaf i a h = true_false h (ap (λ (r : RecordCheck). r.leaf) a)

  pub leaf_is : (i : ℕ) → is_leaf t i ≡ true → Naming t i
  leaf_is i h = go (checked t i)
    where
      go : Checked t i → Naming t i
      go (Checked.inner f a) = not_leaf i a h
      go (Checked.nameless f le a) = not_leaf i a h
      go (Checked.leaf f lt a) =
          let e : cpu_of t i ≡ named t i = ap (λ (r : RecordCheck). r.cpu) a in
          record { leaf = f; cpu = e; inside = rw e lt; number = ap (λ (r : RecordCheck). r.number) a }

  -- whether a leaf below n names cpu k
  pub named_at : (n j : ℕ) → j < n → is_leaf t j ≡ true → named_below t n (cpu_of t j) ≡ true
  unfolding named_below
  named_at n j lt l = any_at (λ i. cond (is_leaf t i) (eqb (cpu_of t i) (cpu_of t j)) false) j n lt (rw l (eq-eqb (cpu_of t j) (cpu_of t j) refl))

  pub named_by : (n k : ℕ) → named_below t n k ≡ true → (j : ℕ) × (j < n) × (is_leaf t j ≡ true) × (cpu_of t j ≡ k)
  unfolding named_below
  named_by n k h =
      let w = any_place (λ i. cond (is_leaf t i) (eqb (cpu_of t i) k) false) n h in
      let s = both_true (is_leaf t w.0) w.2 in
      (w.0, w.1, s.0, eqb-true _ _ s.1)

  -- no two leaves below n name the same cpu
  abbrev pub Apart : ℕ → Type 0
  Apart n = (j k : ℕ) → j < k → k < n → is_leaf t j ≡ true → is_leaf t k ≡ true → cpu_of t j ≡ cpu_of t k → ⊥

  -- then there are no more of them than cpus
  pub leaves_le : (n : ℕ) → Apart n → length (list_below (is_leaf t) n) ≤ length t.phandles
  leaves_le n apart =
      listing_below (list_below (is_leaf t) n) (cpu_of t) (length t.phandles)
      (listed (is_leaf t) {P = λ i. (i < n) × (is_leaf t i ≡ true)} n (λ i p. p) (λ i lt l. (lt, l)))
      (λ i p. (leaf_is i p.1).inside)
      (λ j k p q lt. apart j k lt q.0 p.1 q.1)

  not_named : (k : ℕ) → is_leaf t k ≡ true → repeat_fault t k ≡ 0 → named_below t k (cpu_of t k) ≡ false
  not_named k l z = go (named_below t k (cpu_of t k)) refl (rw l at z)
    where
      go : (b : Bool) → named_below t k (cpu_of t k) ≡ b → ◌≡◌ {A = ℕ} (cond b 25 0) 0 → named_below t k (cpu_of t k) ≡ false
      go true e h = absurd (omega arith)
      go false e h = e

  not_twice : (j k : ℕ) → j < k → is_leaf t j ≡ true → named_below t k (cpu_of t k) ≡ false → cpu_of t j ≡ cpu_of t k → ⊥
  not_twice j k lt l f e = true_false (rw e at (named_at k j lt l)) f

  -- so where no record below n has a fault
  pub clear_apart : (n : ℕ) → ((k : ℕ) → k < n → tree_fault t k ≡ 0) → Apart n
  unfolding tree_fault
  clear_apart n clean j k lt kn lj lk = not_twice j k lt lj (not_named k lk (or_number_zero (check t k).number (repeat_fault t k) (clean k kn)).1)

  module _ (few : length t.phandles ≤ max_cpus) (n : ℕ) (clean : first_fault (tree_fault t) n ≡ clear) where
    -- the leaves fit into an array of 256
    pub leaves_fit : length (list_below (is_leaf t) n) ≤ max_cpus
    leaves_fit = omega (arith, leaves_le n (clear_apart n (below_clear (tree_fault t) n clean)))
