-- SPDX-License-Identifier: BSD-2-Clause OR GPL-2.0-or-later
-- `sunderwath_read_tables` writes what the library answers. Assumes nothing.
use Rattle.demands.proofs.BoundLaws.{board_words}
use Rattle.sunderwath.proofs.read.sunderwath_read_tables.Goals as goal

pub put_board-requires-clause-words : goal.put_board-requires-clause-words
put_board-requires-clause-words c = rw c.read_tables.ensures.answer (board_words _ _)
