-- SPDX-License-Identifier: BSD-2-Clause OR GPL-2.0-or-later
-- `token_at` meets its contract: its tests are those of `token_by`, in the same order. Assumes nothing.
use Rattle.std.proofs.Common.{arith}
use Rattle.std.proofs.lemmas.Grind.{common_steps}
use Rattle.tokens.specs.answers.Read.{token_read}
use Rattle.tokens.proofs.token.token_at.Goals as goal

pub returns-then-not-is_inside : goal.returns-then-not-is_inside
unfolding token_read
returns-then-not-is_inside c = grind (arith, common_steps)

pub returns-then-cell-eq-PROP : goal.returns-then-cell-eq-PROP
unfolding token_read
returns-then-cell-eq-PROP c = grind (arith, common_steps)

pub returns-then-cell-eq-BEGIN_NODE : goal.returns-then-cell-eq-BEGIN_NODE
unfolding token_read
returns-then-cell-eq-BEGIN_NODE c = grind (arith, common_steps)

pub returns-then-cell-eq-END_NODE : goal.returns-then-cell-eq-END_NODE
unfolding token_read
returns-then-cell-eq-END_NODE c = grind (arith, common_steps)

pub returns-else-cell-eq-END_NODE : goal.returns-else-cell-eq-END_NODE
unfolding token_read
returns-else-cell-eq-END_NODE c = grind (arith, common_steps)

pub returns-then-cell-eq-NOP : goal.returns-then-cell-eq-NOP
unfolding token_read
returns-then-cell-eq-NOP c = grind (arith, common_steps)

pub returns-then-cell-eq-END : goal.returns-then-cell-eq-END
unfolding token_read
returns-then-cell-eq-END c = grind (arith, common_steps)

pub returns-else-cell-eq-END : goal.returns-else-cell-eq-END
unfolding token_read
returns-else-cell-eq-END c = grind (arith, common_steps)
