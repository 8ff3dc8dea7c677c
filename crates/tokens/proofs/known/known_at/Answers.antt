-- SPDX-License-Identifier: BSD-2-Clause OR GPL-2.0-or-later
-- `known_at` meets its contract: its tests are those of `known_by`, in the same order. Assumes nothing.
use Rattle.std.proofs.Common.{sym, ◌∙◌, arith}
use Rattle.std.proofs.lemmas.Grind.{common_steps}
use Rattle.tokens.specs.answers.Read.{known_read}
use Rattle.tokens.proofs.TokenLaws.{cell_inside}
use Rattle.tokens.proofs.known.known_at.Goals as goal

pub property_at-requires : goal.property_at-requires
property_at-requires c = cell_inside _ _ 2 (sym c.cell_at-cell.ensures ∙ c.if-cell-eq-PROP.true)

pub begin_at-requires : goal.begin_at-requires
begin_at-requires c = cell_inside _ _ 0 (sym c.cell_at-cell.ensures ∙ c.if-cell-eq-BEGIN_NODE.true)

pub returns-then-cell-eq-PROP : goal.returns-then-cell-eq-PROP
unfolding known_read
returns-then-cell-eq-PROP c = grind (arith, common_steps)

pub returns-then-cell-eq-NOP : goal.returns-then-cell-eq-NOP
unfolding known_read
returns-then-cell-eq-NOP c = grind (arith, common_steps)

pub returns-else-cell-eq-NOP : goal.returns-else-cell-eq-NOP
unfolding known_read
returns-else-cell-eq-NOP c = grind (arith, common_steps)

pub returns-then-cell-eq-BEGIN_NODE : goal.returns-then-cell-eq-BEGIN_NODE
unfolding known_read
returns-then-cell-eq-BEGIN_NODE c = grind (arith, common_steps)

pub returns-then-cell-eq-END_NODE : goal.returns-then-cell-eq-END_NODE
unfolding known_read
returns-then-cell-eq-END_NODE c = grind (arith, common_steps)

pub returns-else-cell-eq-END_NODE : goal.returns-else-cell-eq-END_NODE
unfolding known_read
returns-else-cell-eq-END_NODE c = grind (arith, common_steps)
