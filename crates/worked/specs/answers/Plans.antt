-- SPDX-License-Identifier: BSD-2-Clause OR GPL-2.0-or-later
-- Worked plans: case H7 of 01, {0, 5}, has the plan [2] with slots 0 and 1.
use Rattle.std.specs.Prelude.{◌≡◌, refl, List, [], ◌∷◌, map, ℕ}
use Rattle.laws.specs.facts.Digit.{digit}
use Rattle.laws.specs.answers.FromDigits.{from_digits}
use Rattle.laws.specs.answers.Search.{any_below, list_below}
use Rattle.affinity.specs.answers.Mask.{differing, mask_of}
use Rattle.plan.specs.answers.Check.{clashes}
use Rattle.plan.specs.answers.Slot.{slot_under}
use Rattle.plan.specs.answers.Planner.{dropped, thinned, ones_of, plan_of}

-- MPIDRs, the positions of their plan, and the slot of each under it
pub record PlanCase : Type 0 where
  pub list : List ℕ
  pub positions : List ℕ
  pub slots : List ℕ

abbrev case : List ℕ → List ℕ → List ℕ → PlanCase
case list positions slots = record { list = list; positions = positions; slots = slots }

unfoldable pub plan_cases : List PlanCase
plan_cases =
    case (0 ∷ 5 ∷ []) (2 ∷ []) (0 ∷ 1 ∷ [])
    ∷ case (0 ∷ []) [] (0 ∷ [])
    ∷ case (7 ∷ 7 ∷ []) [] (0 ∷ 0 ∷ [])
    ∷ case (0 ∷ 1 ∷ 2 ∷ 3 ∷ []) (0 ∷ 1 ∷ []) (0 ∷ 1 ∷ 2 ∷ 3 ∷ [])
    ∷ case (0 ∷ 0xFF00FFFFFF ∷ []) (39 ∷ []) (0 ∷ 1 ∷ [])
    ∷ case (0 ∷ 1 ∷ 6 ∷ 0xB ∷ []) (0 ∷ 2 ∷ 3 ∷ []) (0 ∷ 1 ∷ 2 ∷ 5 ∷ [])
    ∷ case (0x100 ∷ 0x3 ∷ 0x203 ∷ 0x3 ∷ []) (8 ∷ 9 ∷ []) (1 ∷ 0 ∷ 2 ∷ 0 ∷ [])
    ∷ []

-- the same MPIDRs, with what the definitions give
abbrev pub defined_plan : PlanCase → PlanCase
defined_plan c = case c.list (plan_of c.list) (map (slot_under (plan_of c.list)) c.list)

pub plans_hold : map defined_plan plan_cases ≡ plan_cases
unfolding plan_cases plan_of slot_under ones_of thinned dropped clashes mask_of differing digit from_digits any_below list_below
plans_hold = refl
