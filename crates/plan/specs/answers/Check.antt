-- SPDX-License-Identifier: BSD-2-Clause OR GPL-2.0-or-later
-- Which of rules 28, 29 and 40 is told of a plan.
use Rattle.std.specs.Prelude.{Bool, true, false, cond, List, ℕ, zero, suc, ◌^◌, eqb, ltb, leb, length, get_or}
use Rattle.std.specs.Int.Bits.{bit_and, bit_or}
use Rattle.laws.specs.facts.Told.{Fault}
use Rattle.laws.specs.answers.Fault.{told, or_else}
use Rattle.laws.specs.answers.Search.{any_below}
use Rattle.affinity.specs.answers.List.{list_fault}

-- whether a position is an affinity bit
abbrev pub is_bit : ℕ → Bool
is_bit p = cond (ltb p 24) true (cond (leb 32 p) (ltb p 40) false)

-- whether the position at an index is above the one before it
abbrev pub rises : List ℕ → ℕ → Bool
rises positions zero = true
rises positions (suc i) = ltb (get_or positions i 0) (get_or positions (suc i) 0)

-- whether the position at an index is no affinity bit, or does not rise
abbrev pub bad_position : List ℕ → ℕ → Bool
bad_position positions i = cond (is_bit (get_or positions i 0)) (cond (rises positions i) false true) true

unfoldable pub bad_positions : List ℕ → Bool
bad_positions positions = any_below (bad_position positions) (length positions)

-- the number with a one at each of the first n positions
unfoldable pub keep_below : List ℕ → ℕ → ℕ
keep_below positions zero = 0
keep_below positions (suc n) = bit_or (keep_below positions n) (2 ^ get_or positions n 0)

abbrev pub keep_of : List ℕ → ℕ
keep_of positions = keep_below positions (length positions)

-- whether two numbers differ, and not in the bits to keep
abbrev pub clash : ℕ → ℕ → ℕ → Bool
clash keep a b = cond (eqb (bit_and a keep) (bit_and b keep)) (cond (eqb a b) false true) false

-- whether one of a list before index j clashes with the one there
abbrev pub clashes_at : List ℕ → ℕ → ℕ → Bool
clashes_at list keep j = any_below (λ i. clash keep (get_or list i 0) (get_or list j 0)) j

-- whether some two of a list clash
unfoldable pub clashes : List ℕ → ℕ → Bool
clashes list keep = any_below (clashes_at list keep) (length list)

-- 40: positions that are not rising affinity bits, or that do not separate the list
unfoldable pub plan_number : List ℕ → List ℕ → ℕ
plan_number list positions = cond (bad_positions positions) 40 (cond (clashes list (keep_of positions)) 40 0)

-- 28, 29, then 40 with place 0
unfoldable pub plan_fault : List ℕ → List ℕ → Fault
plan_fault list positions = or_else (list_fault list) (told (plan_number list positions) 0)
