-- SPDX-License-Identifier: BSD-2-Clause OR GPL-2.0-or-later
-- `write_rows` writes row after row, each behind those before it. Assumes nothing.
use mathlib.Core.Path.{◌≡◌, refl}
use Prim.Native.Nat.{◌+◌, ◌*◌, ◌≤◌}
use native.Mathlib.Omega.{arith}
use lib.ListN.{length}
use borrow.Author.Tests.{lt-ltb, le-ltb}
use Rattle.layout.specs.facts.Row.{row_size}
use Rattle.rows.specs.answers.Write.{source_in, rows_below, written}
use Rattle.rows.proofs.RowLaws.{number_made, row_more}
use Rattle.rows.proofs.PositionLaws.{placed_own}
use Rattle.rows.proofs.write.write_rows.Goals as goal

pub returns-then-rows-lists : goal.returns-then-rows-lists
unfolding written
returns-then-rows-lists c =
    let a = c.args in
    rw (lt-ltb (length a.rows.now) (row_size * length a.lists.now.leaves.now) (omega arith))

pub loop-k-init : goal.loop-k-init
unfolding rows_below
loop-k-init c = (refl, rw c.position_of.ensures)

pub loop-k-preserved : goal.loop-k-preserved
loop-k-preserved c =
    let from = source_in c.args.tables.now c.args.lists.now c.args.slots in
    let k = c.loop-k.k in
    let is_of_leaf = rw c.from-leaf.ensures at c.row_of-row.ensures in
    let made = number_made from k is_of_leaf c.named_cpu-cpu.ensures c.record_at-index.ensures in
    let room : row_size * k + row_size ≤ length c.loop-k.rows = omega (arith, c.loop-k-test.true) in (
      row_more from c.args.rows.now c.loop-k.rows c.put_row.new.part k c.loop-k.invariant.0 made room c.put_row.ensures,
      placed_own c.args.tables.now.nodes.now c.args.tables.now.pool.now c.placed_at-above.ensures,
    )

pub returns : goal.returns
unfolding written
returns c =
    let a = c.args in
    let whole : c.loop-k.k ≡ length a.lists.now.leaves.now = omega arith in
    rw (le-ltb (length a.rows.now) (row_size * length a.lists.now.leaves.now) (omega arith)) (rw whole at c.loop-k.invariant.0)
