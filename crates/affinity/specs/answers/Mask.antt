-- SPDX-License-Identifier: BSD-2-Clause OR GPL-2.0-or-later
-- The mask of a list of MPIDRs.
use Rattle.std.specs.Prelude.{true, false, cond, List, ℕ, eqb, length, get_or}
use Rattle.laws.specs.answers.Search.{any_below}
use Rattle.laws.specs.facts.Digit.{digit}
use Rattle.laws.specs.answers.FromDigits.{from_digits}

-- 1 where some two of a list differ in bit k, 0 where none do
unfoldable pub differing : List ℕ → ℕ → ℕ
differing list k =
    cond
    (any_below (λ i. any_below (λ j. cond (eqb (digit (get_or list i 0) k) (digit (get_or list j 0) k)) false true) (length list)) (length list))
    1 0

unfoldable pub mask_of : List ℕ → ℕ
mask_of list = from_digits (differing list) 64
