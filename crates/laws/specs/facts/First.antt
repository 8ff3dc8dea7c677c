-- SPDX-License-Identifier: BSD-2-Clause OR GPL-2.0-or-later
-- Which of several broken rules is told: a family R of broken rules by number and place, and the stage of each number.
use Rattle.std.specs.Prelude.{Bool, true, false, cond, List, [], ◌∷◌, ◌≡◌, ℕ, suc, ◌<◌, eqb}

-- whether a list has a number
abbrev pub has : List ℕ → ℕ → Bool
has [] n = false
has (first ∷ rest) n = cond (eqb n first) true (has rest n)

-- where a number stands in a list of stages: the place of the first that has it, the number of stages where none has
abbrev pub stage_in : List (List ℕ) → ℕ → ℕ
stage_in [] n = 0
stage_in (first ∷ rest) n = cond (has first n) 0 (suc (stage_in rest n))

-- the rule m broken at q is told before the rule n broken at p
pub data Before (stage : ℕ → ℕ) (m q n p : ℕ) : Type 0 where
  earlier_stage : stage m < stage n → Before stage m q n p
  lower_place : stage m ≡ stage n → q < p → Before stage m q n p
  smaller_number : stage m ≡ stage n → q ≡ p → m < n → Before stage m q n p

-- the rule n is broken at p, and no broken rule is told before it
pub record First (stage : ℕ → ℕ) (R : ℕ → ℕ → Type 0) (n p : ℕ) : Type 0 where
  pub broken : R n p
  pub none_before : (m q : ℕ) → R m q → Before stage m q n p → ⊥
