-- SPDX-License-Identifier: BSD-2-Clause OR GPL-2.0-or-later
-- `is_map` meets its contract. Assumes nothing.
use mathlib.Core.Path.{sym, ◌∙◌}
use Rattle.cpumap.specs.answers.Find.{is_map}
use Rattle.cpumap.proofs.find.is_map.Goals as goal

pub returns-then-is_child : goal.returns-then-is_child
unfolding is_map
returns-then-is_child c = rw (sym c.is_child.ensures ∙ c.if-is_child.true) c.is_map_name.ensures

pub returns-else-is_child : goal.returns-else-is_child
unfolding is_map
returns-else-is_child c = rw (c.if-is_child.false, sym c.is_child.ensures ∙ c.if-is_child.false)
