-- SPDX-License-Identifier: BSD-2-Clause OR GPL-2.0-or-later
-- `read` surveys, and writes where the survey tells nothing. Assumes nothing.
use lib.ListN.{length}
use Rattle.std.proofs.lemmas.Result.{err_from_is_err_and}
use Rattle.tables.specs.facts.Board.{board_of}
use Rattle.board.proofs.JoinLaws.{within, met}
use Rattle.board.proofs.ReadLaws.{gave_up}
use Rattle.board.proofs.read.read.Goals as goal

pub returns-in_err-counts : goal.returns-in_err-counts
returns-in_err-counts c =
    let b = board_of c.args.width c.args.tables.now in
    let p = err_from_is_err_and c.from_residual.result c.from_residual.ensures.1 in
    let t = gave_up b c.args.rows.now (length c.args.rows.now) c.args.entries c.in_err-counts.field-0.0 c.in_err-counts.ensures.answer in
    record { answer = rw (p.1, p.2) t.0; rows = t.1 }

pub listed-lists-requires : goal.listed-lists-requires
listed-lists-requires c = within c.in_ok-counts.ensures.answer (rw c.empty-arrays.ensures at c.in_ok-counts.ensures.lists)

pub returns : goal.returns
returns c =
    let t =
    met c.in_ok-counts.ensures.answer (rw c.empty-arrays.ensures at c.in_ok-counts.ensures.lists) c.listed-lists.ensures c.args.rows.now
    (length c.args.rows.now) c.args.entries c.write.ensures.answer c.write.ensures.rows in
    record { answer = t.0; rows = t.1 }
