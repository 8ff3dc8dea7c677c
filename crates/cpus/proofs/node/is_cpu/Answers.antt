-- SPDX-License-Identifier: BSD-2-Clause OR GPL-2.0-or-later
-- `is_cpu` meets its contract. Assumes nothing.
use mathlib.Core.Path.{sym, ◌∙◌}
use Rattle.cpus.specs.answers.Check.{is_cpu}
use Rattle.cpus.proofs.node.is_cpu.Goals as goal

pub returns-then-is_child : goal.returns-then-is_child
unfolding is_cpu
returns-then-is_child c =
    rw (sym c.is_child.ensures ∙ c.if-is_child.true, ← c.node_word.ensures, ← c.node_word-then-is_child.ensures)
    c.is_cpu_name.ensures

pub returns-else-is_child : goal.returns-else-is_child
unfolding is_cpu
returns-else-is_child c = rw (sym c.is_child.ensures ∙ c.if-is_child.false) c.if-is_child.false
