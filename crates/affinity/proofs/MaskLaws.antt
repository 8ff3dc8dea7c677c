-- SPDX-License-Identifier: BSD-2-Clause OR GPL-2.0-or-later
-- The mask of a list: a one in some of the list and not in all. Assumes nothing.
use mathlib.Core.Path.{◌≡◌, refl, sym, ap, ◌∙◌}
use mathlib.Core.Bool.{Bool, true, false, cond}
use mathlib.Core.List.{List}
use mathlib.Core.Logic.{◌⊎◌, inl, inr, ⊎_elim}
use Prim.Native.Nat.{ℕ, zero, suc, ◌+◌, ◌-◌, ◌^◌, ◌≤◌, ◌<◌, min}
use native.Mathlib.Nat.{lt_of_le_of_lt}
use native.Mathlib.Numerals.{add-one}
use native.Mathlib.Omega.{arith}
use lib.Bits.{bit_and, bit_or, and_le_l, and_le_r}
use lib.Dec.{eqb, lit<}
use lib.ListN.{length, get_or}
use lib.Pow.{ones_lt, ones_sub-lt}
use borrow.Author.Tests.{ne_eqb, eqb-true, eqb-false}
use Rattle.laws.specs.facts.Digit.{digit}
use Rattle.laws.specs.answers.Search.{any_below}
use Rattle.laws.proofs.SearchLaws.{true_false, below_suc, any_at, any_place}
use Rattle.laws.proofs.DigitLaws.{digit_lt, digit_and, digit_or}
use Rattle.laws.proofs.FromDigitLaws.{no_digit, from_lt, from_digit, from_is, digit_not}
use Rattle.affinity.specs.facts.Level.{Affine}
use Rattle.affinity.specs.steps.List.{AllAffine}
use Rattle.affinity.specs.facts.Mask.{Differ, IsMask}
use Rattle.affinity.specs.answers.Mask.{differing, mask_of}
use Rattle.affinity.specs.steps.Mask.{some_below}

-- the and of the first n of a list, in 64 bits
unfoldable pub all_below : List ℕ → ℕ → ℕ
all_below list zero = 2 ^ 64 - 1
all_below list (suc n) = bit_and (all_below list n) (get_or list n 0)

module _ (list : List ℕ) where
  pub some_more : (n : ℕ) → some_below list (n + 1) ≡ bit_or (some_below list n) (get_or list n 0)
  unfolding some_below
  some_more n = rw add-one

  pub all_more : (n : ℕ) → all_below list (n + 1) ≡ bit_and (all_below list n) (get_or list n 0)
  unfolding all_below
  all_more n = rw add-one

  all_lt : (n : ℕ) → all_below list n < 2 ^ 64
  unfolding all_below
  all_lt zero = ones_lt 64
  all_lt (suc n) = lt_of_le_of_lt (and_le_l (all_below list n) (get_or list n 0)) (all_lt n)

  -- a one of the or is a one of some, and of the and a one of all
  some_one : (n k : ℕ) → digit (some_below list n) k ≡ 1 → (i : ℕ) × (i < n) × (digit (get_or list i 0) k ≡ 1)
  unfolding some_below
  some_one zero k h = absurd (omega (arith, no_digit k))
  some_one (suc n) k h = go (digit (get_or list n 0) k) refl (digit_lt (get_or list n 0) k) (some_one n k)
    where
      go :
          (d : ℕ) →
          digit (get_or list n 0) k ≡ d →
          d < 2 →
          (digit (some_below list n) k ≡ 1 → (i : ℕ) × (i < n) × (digit (get_or list i 0) k ≡ 1)) →
          (i : ℕ) × (i < suc n) × (digit (get_or list i 0) k ≡ 1)
      go zero e lt ih = let t = ih (omega (arith, rw (digit_or (some_below list n) (get_or list n 0) k) at h)) in (t.0, omega (arith, t.1), t.2)
      go (suc zero) e lt ih = (n, omega arith, e)
      go (suc (suc d)) e lt ih = absurd (omega arith)

  some_ge : (n k i : ℕ) → i < n → digit (get_or list i 0) k ≤ digit (some_below list n) k
  unfolding some_below
  some_ge zero k i h = absurd (omega arith)
  some_ge (suc n) k i h =
      let both = digit_or (some_below list n) (get_or list n 0) k in
      below_suc {P = λ j. digit (get_or list j 0) k ≤ digit (bit_or (some_below list n) (get_or list n 0)) k} n
      (λ j lt. omega (arith, both, some_ge n k j lt)) (omega (arith, both)) i h

  all_zero : (n k : ℕ) → k < 64 → digit (all_below list n) k ≡ 0 → (i : ℕ) × (i < n) × (digit (get_or list i 0) k ≡ 0)
  unfolding all_below
  all_zero zero k lt h = absurd (omega (arith, digit_not 64 0 k (lit< tt) lt, no_digit k))
  all_zero (suc n) k lt h = go (digit (get_or list n 0) k) refl (all_zero n k lt)
    where
      go :
          (d : ℕ) →
          digit (get_or list n 0) k ≡ d →
          (digit (all_below list n) k ≡ 0 → (i : ℕ) × (i < n) × (digit (get_or list i 0) k ≡ 0)) →
          (i : ℕ) × (i < suc n) × (digit (get_or list i 0) k ≡ 0)
      go zero e ih = (n, omega arith, e)
      go (suc d) e ih = let t = ih (omega (arith, rw (digit_and (all_below list n) (get_or list n 0) k) at h)) in (t.0, omega (arith, t.1), t.2)

  all_le : (n k i : ℕ) → i < n → digit (all_below list n) k ≤ digit (get_or list i 0) k
  unfolding all_below
  all_le zero k i h = absurd (omega arith)
  all_le (suc n) k i h =
      let both = digit_and (all_below list n) (get_or list n 0) k in
      below_suc {P = λ j. digit (bit_and (all_below list n) (get_or list n 0)) k ≤ digit (get_or list j 0) k} n
      (λ j lt. omega (arith, both, all_le n k j lt)) (omega (arith, both)) i h

  -- the test for two that differ
  abbrev apart : ℕ → ℕ → ℕ → Bool
  apart k i j = cond (eqb (digit (get_or list i 0) k) (digit (get_or list j 0) k)) false true

  abbrev some_apart : ℕ → ℕ → Bool
  some_apart k i = any_below (apart k i) (length list)

  differ_one : (k : ℕ) → Differ list k → differing list k ≡ 1
  unfolding differing
  differ_one k d =
      let other = any_at (apart k d.one) d.other (length list) d.other_in (rw (ne_eqb _ _ d.differs)) in
      rw (any_at (some_apart k) d.one (length list) d.one_in other)

  one_differ : (k : ℕ) → differing list k ≡ 1 → Differ list k
  unfolding differing
  one_differ k h = go (any_below (some_apart k) (length list)) refl h
    where
      pair :
          (i j : ℕ) →
          i < length list →
          j < length list →
          (b : Bool) →
          eqb (digit (get_or list i 0) k) (digit (get_or list j 0) k) ≡ b →
          cond b false true ≡ true →
          Differ list k
      pair i j p q true e g = true_false g refl
      pair i j p q false e g = record { one = i; other = j; one_in = p; other_in = q; differs = eqb-false _ _ e }

      go : (b : Bool) → any_below (some_apart k) (length list) ≡ b → ◌≡◌ {A = ℕ} (cond b 1 0) 1 → Differ list k
      go true e g =
          let one = any_place (some_apart k) (length list) e in
          let other = any_place (apart k one.0) (length list) one.2 in
          pair one.0 other.0 one.1 other.1 (eqb (digit (get_or list one.0 0) k) (digit (get_or list other.0 0) k)) refl other.2
      go false e g = absurd (omega arith)

  differing_lt : (k : ℕ) → differing list k < 2
  unfolding differing
  differing_lt k = go (any_below (some_apart k) (length list))
    where
      go : (b : Bool) → cond b 1 0 < 2
      go true = lit< tt
      go false = lit< tt

  -- none differ
  same_zero : (k : ℕ) → ((i : ℕ) → i < length list → digit (get_or list i 0) k ≡ digit (get_or list 0 0) k) → differing list k ≡ 0
  same_zero k same = go (differing list k) refl (differing_lt k)
    where
      go : (d : ℕ) → differing list k ≡ d → d < 2 → differing list k ≡ 0
      go zero e lt = e
      go (suc zero) e lt = let d = one_differ k e in absurd (d.differs (same d.one d.one_in ∙ sym (same d.other d.other_in)))
      go (suc (suc d)) e lt = absurd (omega arith)

  -- the digits of the mask
  mask_digit : (k : ℕ) → k < 64 → digit (mask_of list) k ≡ differing list k
  unfolding mask_of
  mask_digit k = from_digit (differing list) differing_lt 64 k

  -- the mask, as a fact
  pub mask_holds : IsMask list (mask_of list)
  unfolding mask_of
  mask_holds =
      record {
        size = from_lt (differing list) differing_lt 64;
        ones = λ k lt. (λ e. one_differ k (sym (mask_digit k lt) ∙ e), λ d. mask_digit k lt ∙ differ_one k d);
      }

  -- the or and the and of the whole list
  abbrev some : ℕ
  some = some_below list (length list)

  abbrev all : ℕ
  all = all_below list (length list)

  -- a one in some and not in all is a bit in which two differ
  some_not_all : (k : ℕ) → k < 64 → min (digit some k) (1 - digit all k) ≡ differing list k
  some_not_all k lt = go (digit some k) (digit all k) refl refl
    where
      both : digit some k ≡ 1 → digit all k ≡ 0 → differing list k ≡ 1
      both e f =
          let one = some_one (length list) k e in
          let other = all_zero (length list) k lt f in
          differ_one k
          (record { one = one.0; other = other.0; one_in = one.1; other_in = other.1; differs = λ q. omega (arith, one.2, other.2, q) })

      equal : (digit some k ≡ 0) ⊎ (digit all k ≡ 1) → (i : ℕ) → i < length list → digit (get_or list i 0) k ≡ digit all k
      equal h i p =
          let le = all_le (length list) k i p in
          let ge = some_ge (length list) k i p in
          ⊎_elim (λ e. omega arith) (λ e. omega (arith, digit_lt (get_or list i 0) k)) h

      none : (digit some k ≡ 0) ⊎ (digit all k ≡ 1) → differing list k ≡ 0
      none h =
          same_zero k (λ i lt. omega (arith, equal h i lt, equal h 0 (omega arith)))

      go : (s a : ℕ) → digit some k ≡ s → digit all k ≡ a → min (digit some k) (1 - digit all k) ≡ differing list k
      go zero a e f = omega (arith, none (inl e))
      go (suc zero) zero e f = omega (arith, both e f)
      go (suc zero) (suc a) e f = omega (arith, none (inr (omega (arith, digit_lt all k))))
      go (suc (suc s)) a e f = absurd (omega (arith, digit_lt some k))

  pub mask_is : bit_and some (2 ^ 64 - 1 - all) ≡ mask_of list
  unfolding mask_of
  mask_is = from_is (differing list) differing_lt (bit_and some (2 ^ 64 - 1 - all)) 64 small same
    where
      small : bit_and some (2 ^ 64 - 1 - all) < 2 ^ 64
      small = lt_of_le_of_lt (and_le_r some (2 ^ 64 - 1 - all)) (ones_sub-lt 64 all)

      same : (k : ℕ) → k < 64 → digit (bit_and some (2 ^ 64 - 1 - all)) k ≡ differing list k
      same k lt = digit_and some (2 ^ 64 - 1 - all) k ∙ rw (digit_not 64 all k (all_lt (length list)) lt) (some_not_all k lt)

  -- where the or of a list has no bit outside the affinity bits, none of the list has one
  pub some_affine : Affine some → AllAffine list
  some_affine h i lt k one = h k (omega (arith, some_ge (length list) k i lt, digit_lt some k))

  -- a one of the mask is a one of some of the list, and where the mask has a 0 all of them are the same
  pub mask_one : (k : ℕ) → digit (mask_of list) k ≡ 1 → (i : ℕ) × (i < length list) × (digit (get_or list i 0) k ≡ 1)
  mask_one k one =
      some_one (length list) k (omega (
        arith,
        ap (λ (x : ℕ). digit x k) mask_is,
        digit_and some (2 ^ 64 - 1 - all) k,
        digit_lt some k,
      ))

  pub mask_same :
      (k i j : ℕ) → k < 64 → digit (mask_of list) k ≡ 0 → i < length list → j < length list → digit (get_or list i 0) k ≡ digit (get_or list j 0) k
  mask_same k i j lt z p q = go (eqb (digit (get_or list i 0) k) (digit (get_or list j 0) k)) refl
    where
      go : (b : Bool) → eqb (digit (get_or list i 0) k) (digit (get_or list j 0) k) ≡ b → digit (get_or list i 0) k ≡ digit (get_or list j 0) k
      go true e = eqb-true _ _ e
      go false e =
          let d : Differ list k = record { one = i; other = j; one_in = p; other_in = q; differs = eqb-false _ _ e } in
          absurd (omega (arith, mask_digit k lt, differ_one k d))
