-- SPDX-License-Identifier: BSD-2-Clause OR GPL-2.0-or-later
-- `sunderwath_list_hash` writes what the library answers. Assumes nothing.
use mathlib.Core.Path.{ap}
use Rattle.affinity.specs.facts.Told.{ListHash}
use Rattle.affinity.proofs.ListLaws.{hash_place_le}
use Rattle.sunderwath.proofs.CallLaws.{place_in_word}
use Rattle.sunderwath.proofs.list.sunderwath_list_hash.Goals as goal

pub tell_broken-requires : goal.tell_broken-requires
tell_broken-requires c = place_in_word (ap (λ (a : ListHash). a.place) c.in-Err.ensures.answer) (hash_place_le _)
