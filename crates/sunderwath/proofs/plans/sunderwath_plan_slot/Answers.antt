-- SPDX-License-Identifier: BSD-2-Clause OR GPL-2.0-or-later
-- `sunderwath_plan_slot` writes what the library answers. Assumes nothing.
use mathlib.Core.Path.{ap}
use Rattle.affinity.specs.facts.Told.{ListSlot}
use Rattle.plan.proofs.SlotMeans.{slot_demands}
use Rattle.plan.proofs.PlaceLaws.{slot_place_le}
use Rattle.sunderwath.proofs.CallLaws.{place_in_word}
use Rattle.sunderwath.proofs.plans.sunderwath_plan_slot.Goals as goal

pub returns-then-answer-lt-SLOT_WORDS-clause-demands : goal.returns-then-answer-lt-SLOT_WORDS-clause-demands
returns-then-answer-lt-SLOT_WORDS-clause-demands c = slot_demands c.args.list.now c.args.positions.now c.args.mpidr

pub tell_broken-requires : goal.tell_broken-requires
tell_broken-requires c =
    let a = c.args in
    place_in_word (ap (λ (s : ListSlot). s.place) c.in-Err.ensures.answer) (slot_place_le a.list.now a.positions.now a.mpidr)
