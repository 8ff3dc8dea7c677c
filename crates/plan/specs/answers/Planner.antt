-- SPDX-License-Identifier: BSD-2-Clause OR GPL-2.0-or-later
-- Our planner: from all mask bits, each that can be dropped is dropped, from the lowest up.
use Rattle.std.specs.Prelude.{cond, List, ℕ, zero, suc, ◌-◌, ◌^◌, eqb, length, replicate}
use Rattle.laws.specs.facts.Digit.{digit}
use Rattle.laws.specs.answers.Search.{list_below}
use Rattle.laws.specs.answers.Listed.{laid_over}
use Rattle.affinity.specs.answers.Mask.{mask_of}
use Rattle.affinity.specs.answers.List.{list_fault}
use Rattle.plan.specs.facts.Told.{Plan}
use Rattle.plan.specs.answers.Check.{clashes}

-- the bits to keep without bit k, if it is one of them and the others separate the list
unfoldable pub dropped : List ℕ → ℕ → ℕ → ℕ
dropped list keep k = cond (eqb (digit keep k) 1) (cond (clashes list (keep - 2 ^ k)) keep (keep - 2 ^ k)) keep

-- what is kept once the bits below k were tried
unfoldable pub thinned : List ℕ → ℕ → ℕ
thinned list zero = mask_of list
thinned list (suc k) = dropped list (thinned list k) k

-- the positions of a number's ones, rising; affinity bits are below 40
unfoldable pub ones_of : ℕ → List ℕ
ones_of keep = list_below (λ k. eqb (digit keep k) 1) 40

unfoldable pub plan_of : List ℕ → List ℕ
plan_of list = ones_of (thinned list 40)

-- positions as a plan, with zeros behind them
abbrev pub plan_with : List ℕ → Plan
plan_with positions = record { number = 0; place = 0; count = length positions; positions = laid_over positions (replicate 32 0) }

-- the planner's answer: 28, 29, or the plan
unfoldable pub plan_answer : List ℕ → Plan
plan_answer list =
    cond (eqb (list_fault list).number 0) (plan_with (plan_of list))
    (record { number = (list_fault list).number; place = (list_fault list).place; count = 0; positions = replicate 32 0 })
