-- SPDX-License-Identifier: BSD-2-Clause OR GPL-2.0-or-later
-- A number with one of its ones taken away, and the digits of a power of 2. Assumes nothing.
use mathlib.Core.Path.{◌≡◌, refl, sym, ap, ◌∙◌}
use mathlib.Core.Logic.{⊎_elim}
use Prim.Native.Nat.{ℕ, zero, suc, ◌-◌, ◌*◌, ◌/◌, ◌%◌, ◌^◌, ◌≤◌, ◌<◌}
use native.Mathlib.Nat.{pow-suc}
use native.Mathlib.Omega.{arith}
use lib.Dec.{lit<}
use lib.Pow.{shl-shr, shl_exact}
use Rattle.laws.specs.facts.Digit.{digit}
use Rattle.laws.proofs.SearchLaws.{lt_or_le}
use Rattle.laws.proofs.DigitLaws.{digit_zero, digit_suc}
use Rattle.laws.proofs.ShiftLaws.{digit_small}
use Rattle.laws.proofs.FromDigitLaws.{no_digit}

pub one_le : (n k : ℕ) → digit n k ≡ 1 → 2 ^ k ≤ n
one_le n k one = ⊎_elim (λ lt. absurd (omega (arith, digit_small n k lt))) (λ le. le) (lt_or_le n (2 ^ k))

half : (n k : ℕ) → (n - 2 ^ suc k) / 2 ≡ n / 2 - 2 ^ k
half n k = rw (pow-suc 2 k) (omega arith)

pub less_same : (n k : ℕ) → digit n k ≡ 1 → digit (n - 2 ^ k) k ≡ 0
less_same n zero one = digit_zero (n - 1) ∙ omega (arith, digit_zero n)
less_same n (suc k) one = digit_suc (n - 2 ^ suc k) k ∙ rw (half n k) (less_same (n / 2) k (sym (digit_suc n k) ∙ one))

pub less_other : (n k j : ℕ) → digit n k ≡ 1 → (j ≡ k → ⊥) → digit (n - 2 ^ k) j ≡ digit n j
less_other n zero zero one ne = absurd (ne refl)
less_other n zero (suc j) one ne =
    let e : (n - 1) / 2 ≡ n / 2 = omega (arith, digit_zero n) in
    digit_suc (n - 1) j ∙ rw e (sym (digit_suc n j))
less_other n (suc k) zero one ne =
    let le = rw (pow-suc 2 k) at (one_le n (suc k) one) in
    digit_zero (n - 2 ^ suc k) ∙ rw (pow-suc 2 k) (omega (arith, digit_zero n))
less_other n (suc k) (suc j) one ne =
    digit_suc (n - 2 ^ suc k) j
    ∙ rw (half n k) (less_other (n / 2) k j (sym (digit_suc n k) ∙ one) (λ e. ne (ap suc e)) ∙ sym (digit_suc n j))

-- a power of 2 has a one at its place, and none elsewhere
pub pow_digit : (p : ℕ) → digit (2 ^ p) p ≡ 1
unfolding digit
pow_digit p =
    let e : 1 * 2 ^ p / 2 ^ p ≡ 1 = shl-shr 1 p in
    let q : 1 * 2 ^ p ≡ 2 ^ p = omega arith in
    rw q at (ap (λ (x : ℕ). x % 2) e)

pub pow_other : (p k : ℕ) → (k ≡ p → ⊥) → digit (2 ^ p) k ≡ 0
pow_other p k ne =
    let e : 2 ^ p - 2 ^ p ≡ 0 = omega arith in
    sym (less_other (2 ^ p) p k (pow_digit p) ne) ∙ ap (λ (x : ℕ). digit x k) e ∙ no_digit k

-- as the code moves a one to its place
pub pow_shl : (p : ℕ) → p < 64 → (1 * 2 ^ p) % 2 ^ 64 ≡ 2 ^ p
pow_shl p lt = shl_exact 1 p 64 (lit< tt) (omega arith) ∙ omega arith
