-- SPDX-License-Identifier: BSD-2-Clause OR GPL-2.0-or-later
-- Positions that rise in the affinity bits: the test for them, and how many there can be. Assumes nothing.
use mathlib.Core.Path.{◌≡◌, refl}
use mathlib.Core.Bool.{Bool, true, false, cond}
use mathlib.Core.Logic.{inl, inr, ⊎_elim}
use mathlib.Core.List.{List}
use Prim.Native.Nat.{ℕ, zero, suc, ◌-◌, ◌≤◌, ◌<◌}
use native.Mathlib.Decide.{le_ind}
use native.Mathlib.Omega.{arith}
use lib.ListN.{length, get_or}
use borrow.Author.Tests.{ltb-true, lt-ltb}
use Rattle.laws.proofs.SearchLaws.{true_false, any_at, any_place}
use Rattle.laws.proofs.TestLaws.{false_unless}
use Rattle.laws.proofs.DecideLaws.{Decides, lt_decides, le_decides, either_decides, both_decides}
use Rattle.laws.proofs.ListingLaws.{pigeonhole}
use Rattle.affinity.specs.facts.Level.{AffinityBit}
use Rattle.plan.specs.facts.Plan.{Positions}
use Rattle.plan.specs.answers.Check.{is_bit, rises, bad_position, bad_positions}

-- an affinity bit
bit_decides : (p : ℕ) → Decides (is_bit p) (AffinityBit p)
bit_decides p = either_decides (lt_decides p 24) (both_decides (le_decides 32 p) (lt_decides p 40))

pub bit_lt : (p : ℕ) → AffinityBit p → p < 40
bit_lt p = ⊎_elim (λ lt. omega arith) (λ t. t.1)

good_position :
    (positions : List ℕ) (i : ℕ) →
    bad_position positions i ≡ false →
    (is_bit (get_or positions i 0) ≡ true) × (rises positions i ≡ true)
good_position positions i h = go (is_bit (get_or positions i 0)) refl (rises positions i) refl h
  where
    go :
        (a : Bool) →
        is_bit (get_or positions i 0) ≡ a →
        (b : Bool) →
        rises positions i ≡ b →
        cond a (cond b false true) true ≡ false →
        (is_bit (get_or positions i 0) ≡ true) × (rises positions i ≡ true)
    go true e true f g = (e, f)
    go true e false f g = true_false refl g
    go false e b f g = true_false refl g

module _ (positions : List ℕ) where
  -- no position is bad: they are sound
  pub good_sound : bad_positions positions ≡ false → Positions positions
  unfolding bad_positions
  good_sound h =
      record {
        rising = λ i j lt q.
            le_ind (λ (k : ℕ). k < length positions → get_or positions i 0 < get_or positions k 0) (λ p. step i p)
            (λ k _ ih p. let a = ih (omega arith) in let b = step k p in omega arith) j lt q;
        affine = λ i lt. (bit_decides (get_or positions i 0)).0 (good i lt).0;
      }
    where
      good : (i : ℕ) → i < length positions → (is_bit (get_or positions i 0) ≡ true) × (rises positions i ≡ true)
      good i lt =
          good_position positions i
          (false_unless (bad_position positions i) (λ t. true_false (any_at (bad_position positions) i (length positions) lt t) h))

      step : (k : ℕ) → suc k < length positions → get_or positions k 0 < get_or positions (suc k) 0
      step k p = ltb-true (get_or positions k 0) (get_or positions (suc k) 0) (good (suc k) p).1

  pub sound_good : Positions positions → bad_positions positions ≡ false
  unfolding bad_positions
  sound_good h =
      false_unless (bad_positions positions) (λ t.
      let b = any_place (bad_position positions) (length positions) t in
      true_false b.2 (good b.0 b.1))
    where
      good : (i : ℕ) → i < length positions → bad_position positions i ≡ false
      good zero lt = rw ((bit_decides (get_or positions 0 0)).1 (h.affine 0 lt))
      good (suc i) lt =
          rw (
            (bit_decides (get_or positions (suc i) 0)).1 (h.affine (suc i) lt),
            lt-ltb (get_or positions i 0) (get_or positions (suc i) 0) (h.rising i (suc i) (omega arith) lt),
          )

-- there are 32 affinity bits
squeezed : (p : ℕ) → AffinityBit p → ℕ
squeezed p (inl lt) = p
squeezed p (inr t) = p - 8

squeezed_lt : (p : ℕ) (a : AffinityBit p) → squeezed p a < 32
unfolding squeezed
squeezed_lt p (inl lt) = omega arith
squeezed_lt p (inr t) = omega (arith, t.0, t.1)

squeezed_apart : (p q : ℕ) (a : AffinityBit p) (b : AffinityBit q) → p < q → squeezed p a ≡ squeezed q b → ⊥
unfolding squeezed
squeezed_apart p q (inl l) (inl m) lt e = omega arith
squeezed_apart p q (inl l) (inr m) lt e = omega (arith, m.0)
squeezed_apart p q (inr l) (inl m) lt e = omega (arith, l.0)
squeezed_apart p q (inr l) (inr m) lt e = omega (arith, l.0, m.0)

pub positions_few : (positions : List ℕ) → Positions positions → length positions ≤ 32
positions_few positions h =
    pigeonhole 32 (length positions)
    (λ i p. squeezed (get_or positions i 0) (h.affine i p))
    (λ i p. squeezed_lt (get_or positions i 0) (h.affine i p))
    (λ i j p q lt e.
    squeezed_apart (get_or positions i 0) (get_or positions j 0) (h.affine i p) (h.affine j q) (h.rising i j lt q) e)
