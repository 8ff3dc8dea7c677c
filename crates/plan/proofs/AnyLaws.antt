-- SPDX-License-Identifier: BSD-2-Clause OR GPL-2.0-or-later
-- Whether some of a list or of a range passes, by places. Assumes nothing.
use Rattle.std.specs.List.{list_any, range_with_len}
use Rattle.std.proofs.lemmas.List.Folds.{list_any_more}
use mathlib.Core.Path.{◌≡◌, refl, sym, ap, ◌∙◌}
use mathlib.Core.Bool.{Bool, true, false, cond, ◌||◌}
use mathlib.Core.List.{List}
use Prim.Native.Nat.{ℕ, zero, suc, ◌+◌, ◌≤◌}
use native.Mathlib.Numerals.{add-one}
use native.Mathlib.Omega.{arith}
use lib.ListN.{length, take, get_or}
use Rattle.laws.specs.answers.Search.{any_below}

-- the elements of a list below an index
pub any_part : (p : ℕ → Bool) (xs : List ℕ) (n : ℕ) → n ≤ length xs → list_any p (take n xs) ≡ any_below (λ i. p (get_or xs i 0)) n
unfolding any_below
any_part p xs zero le = refl
any_part p xs (suc n) le =
    (rw add-one at (list_any_more p xs n 0 (omega arith)))
    ∙ ap (λ (a : Bool). a || p (get_or xs n 0)) (any_part p xs n (omega arith))
    ∙ last (any_below (λ i. p (get_or xs i 0)) n) (p (get_or xs n 0))
  where
    last : (a b : Bool) → (a || b) ≡ cond b true a
    last true true = refl
    last true false = refl
    last false true = refl
    last false false = refl

-- the first place apart
any_front : (p : ℕ → Bool) (n : ℕ) → any_below p (suc n) ≡ (p 0 || any_below (λ i. p (suc i)) n)
unfolding any_below
any_front p zero = go (p 0)
  where
    go : (a : Bool) → cond a true false ≡ (a || false)
    go true = refl
    go false = refl
any_front p (suc n) = ap (cond (p (suc n)) true) (any_front p n) ∙ go (p 0) (p (suc n)) (any_below (λ i. p (suc i)) n)
  where
    go : (a b r : Bool) → cond b true (a || r) ≡ (a || cond b true r)
    go true true r = refl
    go true false r = refl
    go false b r = refl

any_from : (p : ℕ → Bool) (a n : ℕ) → list_any p (range_with_len a n) ≡ any_below (λ i. p (a + i)) n
unfolding any_below
any_from p a zero = refl
any_from p a (suc n) =
    let here : a ≡ a + 0 = omega arith in
    let next : (i : ℕ) → a + 1 + i ≡ a + suc i = λ i. omega arith in
    ap (λ (r : Bool). p a || r) (any_from p (a + 1) n ∙ (λ k. any_below (λ i. p (next i k)) n))
    ∙ ap (λ (b : ℕ). p b || any_below (λ i. p (a + suc i)) n) here
    ∙ sym (any_front (λ i. p (a + i)) n)

-- the places below a number
pub any_range : (p : ℕ → Bool) (n : ℕ) → list_any p (range_with_len 0 n) ≡ any_below p n
any_range p n =
    let same : (i : ℕ) → 0 + i ≡ i = λ i. omega arith in
    any_from p 0 n ∙ (λ k. any_below (λ i. p (same i k)) n)
