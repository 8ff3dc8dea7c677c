-- SPDX-License-Identifier: BSD-2-Clause OR GPL-2.0-or-later
-- `write_rows` writes row after row, each behind those before it. Assumes nothing.
use mathlib.Core.Path.{◌≡◌}
use mathlib.Core.List.{◌++◌}
use Prim.Native.Nat.{◌*◌}
use lib.ListN.{drop}
use Rattle.layout.specs.facts.Row.{row_size}
use Rattle.rows.specs.steps.Position.{placed}
use Rattle.rows.specs.answers.Write.{source_in, rows_below}
use Rattle.rows.proofs.write.write_rows.Given as goal

abbrev pub invariant-loop-k : goal.invariant-loop-k
invariant-loop-k l = (l.rows ≡ rows_below (source_in l.tables l.lists l.slots) l.k ++ drop (row_size * l.k) l.initial.rows)
    × (l.above ≡ placed l.tables.nodes.now l.tables.pool.now l.above.node)
