-- SPDX-License-Identifier: BSD-2-Clause OR GPL-2.0-or-later
-- `read_slots` reads for a table, and fills it where no rule is broken. Assumes nothing.
use mathlib.Core.Path.{refl, sym}
use native.Mathlib.Omega.{arith}
use lib.Seq.{length-take-le}
use Rattle.std.proofs.lemmas.Result.{err_from_is_err_and}
use Rattle.laws.proofs.ToldLaws.{rule_counts}
use Rattle.board.proofs.CallLaws.{few_rows, rows_there, fills, leaves}
use Rattle.board.proofs.read_slots.Goals as goal

pub returns-in_err-found : goal.returns-in_err-found
returns-in_err-found c =
    let e = c.in_err-found.ensures in
    let p = err_from_is_err_and c.from_residual.result c.from_residual.ensures.1 in
    let t = leaves c.tables_sized.ensures c.args.rows.now c.args.table.now (e.answer, e.rows) (rule_counts _) in
    rw (p.1, p.2) (record { answer = t.0; rows = t.1.0; table = t.1.1.0; demands = t.1.1.1 })

pub overflow_mul-words : goal.overflow_mul-words
overflow_mul-words c =
    let e = c.in_ok-found.ensures in
    omega (arith, few_rows c.tables_sized.ensures c.args.rows.now c.args.table.now (e.answer, e.rows))

pub slice_bounds-fill_table-end : goal.slice_bounds-fill_table-end
slice_bounds-fill_table-end c =
    let e = c.in_ok-found.ensures in
    rows_there c.tables_sized.ensures c.args.rows.now c.args.table.now (e.answer, e.rows) refl

pub slice_bounds-fill_table-end-2 : goal.slice_bounds-fill_table-end-2
slice_bounds-fill_table-end-2 c =
    let e = c.in_ok-found.ensures in
    sym (length-take-le _ _ (rows_there c.tables_sized.ensures c.args.rows.now c.args.table.now (e.answer, e.rows) refl))

pub returns : goal.returns
returns c =
    let e = c.in_ok-found.ensures in
    let t = fills c.tables_sized.ensures c.args.rows.now c.args.table.now (e.answer, e.rows) refl c.fill_table.ensures.table in
    record { answer = t.0; rows = t.1.0; table = t.1.1.0; demands = t.1.1.1 }
