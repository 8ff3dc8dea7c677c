-- SPDX-License-Identifier: BSD-2-Clause OR GPL-2.0-or-later
-- `sunderwath_read_tables_slots` writes what the library answers. Assumes nothing.
use Rattle.demands.proofs.BoundLaws.{slots_words}
use Rattle.sunderwath.proofs.slots.sunderwath_read_tables_slots.Goals as goal

pub put_board-requires-clause-words : goal.put_board-requires-clause-words
put_board-requires-clause-words c = rw c.read_slots.ensures.answer (slots_words _ _ _)
