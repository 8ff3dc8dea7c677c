-- SPDX-License-Identifier: BSD-2-Clause OR GPL-2.0-or-later
-- Low, top and width of a level's part: the computed numbers meet the facts, and no others do. Assumes nothing.
use mathlib.Core.Path.{◌≡◌, refl, ap, ◌∙◌}
use mathlib.Core.Logic.{⊎_elim}
use Prim.Native.Nat.{ℕ, zero, suc, ◌+◌, ◌*◌, ◌<◌}
use native.Mathlib.Numerals.{add-one}
use native.Mathlib.Omega.{arith}
use lib.Count.{count_leading_zeros}
use Rattle.laws.specs.facts.Digit.{digit}
use Rattle.laws.proofs.DigitLaws.{digit_zero}
use Rattle.laws.proofs.ShiftLaws.{digit_shl, digit_top}
use Rattle.laws.proofs.FromDigitLaws.{no_digit, digit_high}
use Rattle.laws.proofs.FirstLaws.{compared}
use Rattle.affinity.specs.answers.Level.{low_of, top_of, width_of}
use Rattle.affinity.specs.facts.Level.{Low, Top, Width}
use Rattle.affinity.proofs.LevelLaws.{low_means, top_means, low_width, low_digit}

-- the computed ones meet the facts
low_one : (n : ℕ) → 0 < n → n < 256 → digit n (low_of n) ≡ 1
low_one n p h =
    let t = low_means n p h in
    let e : low_of n ≡ low_of n + 0 = omega arith in
    ap (λ (x : ℕ). digit x (low_of n)) t.1
    ∙ ap (digit _) e
    ∙ digit_shl (2 * t.0 + 1) (low_of n) 0
    ∙ omega (arith, digit_zero (2 * t.0 + 1))

pub low_holds : (n : ℕ) → n < 256 → Low n (low_of n)
unfolding low_of
low_holds zero h = Low.zero_part
low_holds (suc n) h = Low.lowest_one (low_one (suc n) (omega arith) h) (λ k lt. low_digit (suc n) k h lt)

top_holds : (n : ℕ) → n < 256 → Top n (top_of n)
unfolding top_of count_leading_zeros
top_holds zero h = Top.zero_part
top_holds (suc n) h =
    let t = top_means (suc n) (omega arith) h in
    rw (t.1 ∙ add-one t.0)
    (Top.highest_one (digit_top (suc n) t.0 t.2 t.3) (λ k lt. digit_high (suc n) (t.0 + 1) k t.3 (omega arith)))

pub width_holds : (n : ℕ) → n < 256 → Width n (width_of n)
width_holds n h = record { low = low_of n; is_low = low_holds n h; is_top = rw (low_width n h).0 (top_holds n h) }

-- no others do
pub low_unique : {part a b : ℕ} → Low part a → Low part b → a ≡ b
low_unique Low.zero_part Low.zero_part = refl
low_unique Low.zero_part (Low.lowest_one {low = b} one _) = absurd (omega (arith, no_digit b))
low_unique (Low.lowest_one {low = a} one _) Low.zero_part = absurd (omega (arith, no_digit a))
low_unique (Low.lowest_one {low = a} one none) (Low.lowest_one {low = b} other least) =
    ⊎_elim (λ lt. absurd (omega (arith, least a lt))) (⊎_elim (λ e. e) (λ lt. absurd (omega (arith, none b lt)))) (compared a b)

top_unique : {part a b : ℕ} → Top part a → Top part b → a ≡ b
top_unique Top.zero_part Top.zero_part = refl
top_unique Top.zero_part (Top.highest_one {top = b} one _) = absurd (omega (arith, no_digit b))
top_unique (Top.highest_one {top = a} one _) Top.zero_part = absurd (omega (arith, no_digit a))
top_unique (Top.highest_one {top = a} one none) (Top.highest_one {top = b} other most) =
    ap suc (⊎_elim (λ lt. absurd (omega (arith, none b lt))) (⊎_elim (λ e. e) (λ lt. absurd (omega (arith, most a lt)))) (compared a b))

pub width_unique : {part a b : ℕ} → Width part a → Width part b → a ≡ b
width_unique h g = omega (arith, low_unique h.is_low g.is_low, top_unique h.is_top g.is_top)
