-- SPDX-License-Identifier: BSD-2-Clause OR GPL-2.0-or-later
-- `has_child` meets its contract. Assumes nothing.
use borrow.Author.Tests.{le-ltb}
use Rattle.topology.specs.answers.Check.{has_child}
use Rattle.topology.proofs.CodeLaws.{no_child}
use Rattle.topology.proofs.shape.has_child.Goals as goal

pub returns-then-i-nodes : goal.returns-then-i-nodes
unfolding has_child
returns-then-i-nodes c = c.is_child.ensures

pub returns-else-i-nodes : goal.returns-else-i-nodes
returns-else-i-nodes c = rw (le-ltb _ _ c.if-i-nodes.false) (no_child _ _ c.if-i-nodes.false)
