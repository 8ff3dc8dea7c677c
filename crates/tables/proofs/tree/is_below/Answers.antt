-- SPDX-License-Identifier: BSD-2-Clause OR GPL-2.0-or-later
-- `is_below` meets its contract: a record is below what its parent is or is below. Assumes nothing.
use mathlib.Core.Path.{sym, ◌∙◌}
use Rattle.tables.proofs.CodeTree.{below_from}
use Rattle.tables.proofs.TreeLaws.{parent_top, below_none}
use Rattle.tables.proofs.tree.is_below.Goals as goal

pub returns-in_default : goal.returns-in_default
returns-in_default c = below_none _ _ _ (parent_top _ _ (sym c.parent_of.ensures ∙ c.in_default.is))

pub returns : goal.returns
returns c = c.reaches.ensures ∙ below_from _ _ _ _ (sym c.parent_of.ensures ∙ c.in-Some.is)
