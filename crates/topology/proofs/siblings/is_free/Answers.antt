-- SPDX-License-Identifier: BSD-2-Clause OR GPL-2.0-or-later
-- `is_free` meets its contract: what is known of the records before j settles it at a child that has the number, at child number n
-- from i on, or at the end. Assumes nothing.
use mathlib.Core.Path.{sym, ◌∙◌}
use native.Mathlib.Omega.{arith}
use Rattle.laws.proofs.SearchLaws.{count_le}
use Rattle.tables.specs.answers.Tree.{is_child}
use Rattle.topology.proofs.SiblingLaws.{passed_none, passed_other, passed_earlier, passed_later, free_taken, free_enough, free_none}
use Rattle.topology.proofs.siblings.is_free.Goals as goal
use Rattle.topology.proofs.siblings.is_free.Goals.{then-is_child, else-is_child, then-j-i+else-has_number, else-j-i+else-wide-count}

pub loop-j-init : goal.loop-j-init
loop-j-init c = passed_none _ _ _ _ _ c.requires

pub returns-then-has_number : goal.returns-then-has_number
returns-then-has_number c =
    free_taken _ _ _ _ _ c.requires c.loop-j.invariant (omega arith)
    (sym c.is_child.ensures ∙ c.if-is_child.true) c.if-j-i.true (sym c.has_number.ensures ∙ c.if-has_number.true)

pub returns-then-wide-count : goal.returns-then-wide-count
returns-then-wide-count c =
    free_enough _ _ _ _ _ c.requires c.loop-j.invariant (omega arith)
    (sym c.is_child.ensures ∙ c.if-is_child.true) c.if-j-i.false (omega (arith, c.if-wide-count.true, c.wide.ensures))

pub overflow_add-count : goal.overflow_add-count
overflow_add-count c =
    let loop = c.loop-j in
    let a = c.args in
    omega (arith, loop.invariant.counted, count_le (is_child a.tables.now.nodes.now a.p) loop.j, loop.invariant.inside)

pub loop-j-preserved : goal.loop-j-preserved
loop-j-preserved c =
    let known = c.loop-j.invariant in
    let call = c.is_child.ensures in
    elim c.if-is_child.branch [
      | then-is_child w ↦
          let yes = sym call ∙ w.if-is_child.true in
          rw w.count-is
          (elim w.if-j-i.branch [
            | then-j-i+else-has_number v ↦
                passed_earlier _ _ _ _ _ c.requires known (omega arith) yes v.if-j-i.true (sym v.has_number.ensures ∙ v.if-has_number.false)
            | else-j-i+else-wide-count v ↦
                passed_later _ _ _ _ _ c.requires known (omega arith) yes v.if-j-i.false (omega (arith, v.if-wide-count.false, v.wide.ensures))
          ])
      | else-is_child w ↦ rw w.count-is (passed_other _ _ _ _ _ c.requires known (omega arith) (sym call ∙ w.if-is_child.false))
    ]

pub returns : goal.returns
returns c = free_none _ _ _ _ _ c.requires c.loop-j.invariant (omega arith)
