-- SPDX-License-Identifier: BSD-2-Clause OR GPL-2.0-or-later
-- `topology_name` meets its contract: the name is read where it lies inside the pool. Assumes nothing.
use mathlib.Core.Path.{sym, ◌∙◌}
use native.Mathlib.Omega.{arith}
use borrow.Author.Tests.{leb-true, leb-false}
use Rattle.cpumap.proofs.CodeLaws.{name_none, name_outside, name_read}
use Rattle.cpumap.proofs.path.topology_name.Goals as goal

pub returns-then-tables-i : goal.returns-then-tables-i
returns-then-tables-i c = name_none _ _ _ c.if-tables-i.true

pub returns-then-not-is_inside : goal.returns-then-not-is_inside
returns-then-not-is_inside c =
    name_outside _ _ _ (omega arith) c.node_word-offset.ensures c.node_word-len.ensures
    (leb-false _ _ (sym c.is_inside.ensures ∙ c.if-not-is_inside.true))

pub returns : goal.returns
returns c =
    c.name_of.ensures.answer
    ∙ name_read _ _ _ (omega arith) c.node_word-offset.ensures c.node_word-len.ensures
    (leb-true _ _ (sym c.is_inside.ensures ∙ c.if-not-is_inside.false))
