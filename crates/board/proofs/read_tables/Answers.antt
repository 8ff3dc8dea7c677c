-- SPDX-License-Identifier: BSD-2-Clause OR GPL-2.0-or-later
-- `read_tables` reads for the rows alone. Assumes nothing.
use Rattle.board.proofs.CallLaws.{reads_tables}
use Rattle.board.proofs.read_tables.Goals as goal

pub returns : goal.returns
returns c =
    let t = reads_tables c.tables_sized.ensures c.args.rows.now (c.read.ensures.answer, c.read.ensures.rows) in
    record { answer = t.0; rows = t.1.0; demands = t.1.1 }
