-- SPDX-License-Identifier: BSD-2-Clause OR GPL-2.0-or-later
-- The slot of an MPIDR under a plan.
use Rattle.std.specs.Prelude.{List, ℕ, length, get_or}
use Rattle.laws.specs.facts.Digit.{digit}
use Rattle.laws.specs.answers.FromDigits.{from_digits}
use Rattle.laws.specs.answers.Search.{is_among}
use Rattle.affinity.specs.facts.Told.{ListSlot}
use Rattle.affinity.specs.answers.List.{slot_behind}
use Rattle.plan.specs.answers.Check.{plan_fault}

-- the bits of an MPIDR at the positions, the lowest position in bit 0
unfoldable pub slot_under : List ℕ → ℕ → ℕ
slot_under positions mpidr = from_digits (λ i. digit mpidr (get_or positions i 0)) (length positions)

-- the answer to "one MPIDR's slot under a plan": 28, 29, 40, then 30 for an unknown one
unfoldable pub plan_slot : ℕ → List ℕ → List ℕ → ListSlot
plan_slot mpidr list positions = slot_behind (plan_fault list positions) (is_among list mpidr) (slot_under positions mpidr)
