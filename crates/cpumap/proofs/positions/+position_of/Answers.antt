-- SPDX-License-Identifier: BSD-2-Clause OR GPL-2.0-or-later
-- `position_of` meets its contract, by recursion on the parent. Assumes nothing.
use mathlib.Core.Path.{sym, ap₂, ◌∙◌}
use native.Mathlib.Omega.{arith}
use Rattle.tables.proofs.TreeLaws.{parent_is}
use Rattle.cpumap.specs.steps.Position.{position_step}
use Rattle.cpumap.proofs.CodeLaws.{position_none, position_is}
use Rattle.cpumap.proofs.positions.+position_of.Goals as goal

pub returns-in_default : goal.returns-in_default
returns-in_default t c = c.no_position.ensures ∙ position_none _ _ _ (sym c.parent_of.ensures ∙ c.in_default.is)

pub position_of-requires : goal.position_of-requires
position_of-requires t c = omega (arith, (parent_is _ _ _ (sym c.parent_of.ensures ∙ c.in-Some.is)).2)

pub returns : goal.returns
returns t c =
    c.position_step.ensures
    ∙ ap₂ position_step c.topology_name.ensures c.position_of.ensures
    ∙ position_is _ _ _ _ (sym c.parent_of.ensures ∙ c.in-Some.is)
