-- SPDX-License-Identifier: BSD-2-Clause OR GPL-2.0-or-later
-- The answers of the three calls on plans.
use Rattle.std.specs.Prelude.{List, [], ◌∷◌, ℕ}
use Rattle.laws.specs.facts.Told.{Fault}
use Rattle.affinity.specs.facts.Told.{ListSlot}
use Rattle.plan.specs.facts.Told.{Plan}

abbrev pub plan_check_size : ℕ
plan_check_size = 2

-- number, place
abbrev pub plan_check_words : Fault → List ℕ
plan_check_words a = a.number ∷ a.place ∷ []

abbrev pub plan_slot_size : ℕ
plan_slot_size = 3

-- number, place, slot
abbrev pub plan_slot_words : ListSlot → List ℕ
plan_slot_words a = a.number ∷ a.place ∷ a.slot ∷ []

abbrev pub plan_size : ℕ
plan_size = 35

-- number, place, how many positions there are, and 32 of them
abbrev pub plan_words : Plan → List ℕ
plan_words a = a.number ∷ a.place ∷ a.count ∷ a.positions
