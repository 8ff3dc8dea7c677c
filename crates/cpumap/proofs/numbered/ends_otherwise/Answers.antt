-- SPDX-License-Identifier: BSD-2-Clause OR GPL-2.0-or-later
-- `ends_otherwise` meets its contract: the name's last byte is read where the name lies inside the pool. Assumes nothing.
use mathlib.Core.Path.{sym, ◌∙◌}
use borrow.Author.Tests.{leb-true}
use Rattle.cpumap.specs.steps.LastDigit.{ends_otherwise}
use Rattle.cpumap.proofs.NumberLaws.{ends_inside, ends_outside}
use Rattle.cpumap.proofs.numbered.ends_otherwise.Goals as goal
use Rattle.cpumap.proofs.numbered.ends_otherwise.Goals.{then-len-eq0-via-then-len-eq0, then-len-eq0-via-else-len-eq0+then-not-is_inside}

pub returns-then-len-eq0 : goal.returns-then-len-eq0
unfolding ends_otherwise
returns-then-len-eq0 c =
    let a = c.args in
    elim c.then-len-eq0.branch [
      | then-len-eq0-via-then-len-eq0 w ↦ rw (← c.node_word-len.ensures, w.if-len-eq0.true)
      | then-len-eq0-via-else-len-eq0+then-not-is_inside w ↦
          ends_outside a.tables.now.nodes.now a.tables.now.pool.now a.i a.n c.node_word-offset.ensures c.node_word-len.ensures w.if-len-eq0.false
          (sym w.is_inside.ensures ∙ w.if-not-is_inside.true)
    ]

pub returns : goal.returns
returns c =
    ends_inside _ _ _ _ c.node_word-offset.ensures c.node_word-len.ensures c.if-len-eq0.false
    (leb-true _ _ (sym c.is_inside.ensures ∙ c.if-not-is_inside.false)) c.from.ensures
