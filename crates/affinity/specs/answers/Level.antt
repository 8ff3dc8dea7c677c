-- SPDX-License-Identifier: BSD-2-Clause OR GPL-2.0-or-later
-- Low and width of a level's part, and the test for bits outside the affinity bits.
use Rattle.std.specs.Prelude.{Bool, false, cond, ℕ, zero, suc, ◌-◌, ◌/◌, ◌%◌, ◌^◌, eqb}
use Rattle.std.specs.Int.Count.{count_trailing_zeros, count_leading_zeros}

-- low: the trailing zero bits of a level's part, 0 where the part is zero
unfoldable pub low_of : ℕ → ℕ
low_of zero = zero
low_of (suc n) = count_trailing_zeros 8 (suc n)

-- the position of the part's highest one plus 1, 0 where the part is zero
unfoldable pub top_of : ℕ → ℕ
top_of n = 8 - count_leading_zeros 8 n

unfoldable pub width_of : ℕ → ℕ
width_of n = top_of n - low_of n

-- whether a number has no bit outside the affinity bits
unfoldable pub is_affine : ℕ → Bool
is_affine m = cond (eqb (m / 2 ^ 40) 0) (eqb (m / 2 ^ 24 % 256) 0) false
