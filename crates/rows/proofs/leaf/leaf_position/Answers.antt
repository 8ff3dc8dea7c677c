-- SPDX-License-Identifier: BSD-2-Clause OR GPL-2.0-or-later
-- `leaf_position` meets its contract: the parent's, or read anew. Assumes nothing.
use mathlib.Core.Path.{sym, ◌∙◌}
use Rattle.rows.proofs.PositionLaws.{position_kept}
use Rattle.rows.proofs.leaf.leaf_position.Goals as goal

pub returns-then-keeps_position : goal.returns-then-keeps_position
returns-then-keeps_position c =
    let kept = sym c.keeps_position.ensures ∙ c.if-keeps_position.true in
    let a = c.args in
    position_kept a.tables.now.nodes.now a.tables.now.pool.now a.leaf c.parent_of.ensures c.requires.name c.requires.above kept
