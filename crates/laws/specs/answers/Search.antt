-- SPDX-License-Identifier: BSD-2-Clause OR GPL-2.0-or-later
-- A test over the places below a number: the lowest that passes, whether some does, how many do, and which.
use Rattle.std.specs.Prelude.{Option, None, Some, Bool, cond, true, false, List, [], ◌∷◌, ◌++◌, ℕ, zero, suc, ltb, eqb, length, get_or}

-- the lowest place below n that passes, or n
unfoldable pub lowest : (ℕ → Bool) → ℕ → ℕ
lowest p zero = zero
lowest p (suc n) = let before = lowest p n in cond (ltb before n) before (cond (p n) n (suc n))

unfoldable pub any_below : (ℕ → Bool) → ℕ → Bool
any_below p zero = false
any_below p (suc n) = cond (p n) true (any_below p n)

unfoldable pub count_below : (ℕ → Bool) → ℕ → ℕ
count_below p zero = zero
count_below p (suc n) = cond (p n) (suc (count_below p n)) (count_below p n)

-- the places below n that pass, rising
unfoldable pub list_below : (ℕ → Bool) → ℕ → List ℕ
list_below p zero = []
list_below p (suc n) = cond (p n) (list_below p n ++ (n ∷ [])) (list_below p n)

-- the lowest place of a number in a list, or the list's length
abbrev pub place_in : List ℕ → ℕ → ℕ
place_in list x = lowest (λ k. eqb (get_or list k 0) x) (length list)

-- a place in a list, or its length
abbrev pub or_length : List ℕ → Option ℕ → ℕ
or_length list (Some k) = k
or_length list None = length list

-- whether a number stands in a list
abbrev pub is_among : List ℕ → ℕ → Bool
is_among list x = any_below (λ k. eqb (get_or list k 0) x) (length list)
