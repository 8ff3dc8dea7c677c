-- SPDX-License-Identifier: BSD-2-Clause OR GPL-2.0-or-later
-- `cell_at` reads a cell inside the pool, and 0 elsewhere. Assumes nothing.
use mathlib.Core.Path.{sym, ◌∙◌}
use native.Mathlib.Omega.{arith}
use Rattle.tables.proofs.CellLaws.{cell_missing, cell_read}
use Rattle.tables.proofs.pool.cell_at.Goals as goal

pub returns-then-pool-lt4 : goal.returns-then-pool-lt4
returns-then-pool-lt4 c = let a = c.args in sym (cell_missing a.pool.now a.at (omega (arith, c.if-pool-lt4.true)))

pub returns-then-pool-at : goal.returns-then-pool-at
returns-then-pool-at c = let a = c.args in sym (cell_missing a.pool.now a.at (omega (arith, c.if-pool-at.true, c.if-pool-lt4.false)))

pub returns : goal.returns
returns c =
    let a = c.args in
    c.from_be_bytes.ensures ∙ cell_read a.pool.now a.at (omega (arith, c.if-pool-at.false, c.if-pool-lt4.false))
