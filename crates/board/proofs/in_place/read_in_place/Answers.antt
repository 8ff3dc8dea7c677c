-- SPDX-License-Identifier: BSD-2-Clause OR GPL-2.0-or-later
-- `read_in_place` surveys by the front of the table, and writes over it where the survey tells nothing. Assumes nothing.
use Prim.Native.Nat.{min}
use lib.ListN.{length, take}
use Rattle.std.proofs.lemmas.Result.{err_from_is_err_and}
use Rattle.std.specs.Prelude.{None}
use Rattle.laws.proofs.CutLaws.{cut_same}
use Rattle.tables.specs.facts.Board.{board}
use Rattle.board.proofs.CallLaws.{rows_alone}
use Rattle.board.proofs.JoinLaws.{within, met}
use Rattle.board.proofs.ReadLaws.{gave_up}
use Rattle.board.proofs.in_place.read_in_place.Goals as goal

pub returns-in_err-counts : goal.returns-in_err-counts
returns-in_err-counts c =
    let a = c.args in
    let b = board a.width a.nodes.now (take c.min-held.result a.table.now) a.pool.now in
    let p = err_from_is_err_and c.from_residual.result c.from_residual.ensures.1 in
    let room = min a.room (length a.table.now) in
    let t = rows_alone b a.table.now room (gave_up b a.table.now room None c.in_err-counts.field-0.0 c.in_err-counts.ensures.answer) in
    rw (← cut_same a.table.now a.words c.min-held.ensures) (record { answer = rw (p.1, p.2) t.0; rows = t.1 })

pub listed-lists-requires : goal.listed-lists-requires
listed-lists-requires c = within c.in_ok-counts.ensures.answer (rw c.empty-arrays.ensures at c.in_ok-counts.ensures.lists)

pub returns : goal.returns
returns c =
    let a = c.args in
    let b = board a.width a.nodes.now (take c.min-held.result a.table.now) a.pool.now in
    let promised =
    met {b = b} c.in_ok-counts.ensures.answer (rw c.empty-arrays.ensures at c.in_ok-counts.ensures.lists) c.listed-lists.ensures a.table.now
    c.min.result None c.write.ensures.answer c.write.ensures.rows in
    let t = rows_alone b a.table.now c.min.result promised in
    rw (← cut_same a.table.now a.words c.min-held.ensures, ← c.min.ensures) (record { answer = t.0; rows = t.1 })
