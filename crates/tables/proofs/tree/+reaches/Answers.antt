-- SPDX-License-Identifier: BSD-2-Clause OR GPL-2.0-or-later
-- `reaches` decides whether a record is another or below it; the record number falls with each call. Assumes nothing.
use mathlib.Core.Path.{sym, ◌∙◌}
use native.Mathlib.Omega.{arith}
use Rattle.tables.proofs.CodeTree.{reach_end, reach_on, below_from}
use Rattle.tables.proofs.TreeLaws.{parent_is, parent_top, below_none}
use Rattle.tables.proofs.tree.+reaches.Goals as goal

pub returns-then-p-a : goal.returns-then-p-a
returns-then-p-a t c = reach_end _ _ _ c.if-p-a.true

pub returns-in_default : goal.returns-in_default
returns-in_default t c = below_none _ _ _ (parent_top _ _ (sym c.parent_of.ensures ∙ c.in_default.is)) ∙ reach_on _ _ _ c.if-p-a.false

pub reaches-requires : goal.reaches-requires
reaches-requires t c = omega (arith, (parent_is _ _ _ (sym c.parent_of.ensures ∙ c.in-Some.is)).2)

pub returns : goal.returns
returns t c = c.reaches.ensures ∙ below_from _ _ _ _ (sym c.parent_of.ensures ∙ c.in-Some.is) ∙ reach_on _ _ _ c.if-p-a.false
