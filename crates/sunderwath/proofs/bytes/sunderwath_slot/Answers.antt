-- SPDX-License-Identifier: BSD-2-Clause OR GPL-2.0-or-later
-- `sunderwath_slot` writes what the library answers. Assumes nothing.
use mathlib.Core.Path.{ap}
use Rattle.affinity.specs.facts.Told.{ListSlot}
use Rattle.loader.proofs.SlotLaws.{byte_place, byte_demands}
use Rattle.sunderwath.proofs.CallLaws.{place_in_word}
use Rattle.sunderwath.proofs.bytes.sunderwath_slot.Goals as goal

pub returns-then-answer-lt-REPLY_BYTES-clause-demands : goal.returns-then-answer-lt-REPLY_BYTES-clause-demands
returns-then-answer-lt-REPLY_BYTES-clause-demands c = byte_demands c.args.list.now c.args.mpidr

pub tell_broken-requires : goal.tell_broken-requires
tell_broken-requires c = place_in_word (ap (λ (a : ListSlot). a.place) c.in-Err.ensures.answer) (byte_place _ _)
