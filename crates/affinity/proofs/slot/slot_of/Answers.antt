-- SPDX-License-Identifier: BSD-2-Clause OR GPL-2.0-or-later
-- `slot_of` joins the four levels. Assumes nothing.
use Rattle.affinity.specs.facts.Slot.{slot_of}
use Rattle.affinity.specs.answers.Hash.{slot_guarded}
use Rattle.affinity.proofs.slot.slot_of.Goals as goal

pub returns : goal.returns
unfolding slot_of slot_guarded
returns c =
    rw (
      c.level_slot.ensures,
      c.level_slot-2.ensures,
      c.level_slot-3.ensures,
      c.level_slot-4.ensures,
    )
