-- SPDX-License-Identifier: BSD-2-Clause OR GPL-2.0-or-later
-- `sound_parent` tests rule 6 of a record. Assumes nothing.
use mathlib.Core.Path.{◌≡◌, ◌∙◌}
use mathlib.Core.Bool.{true, cond}
use Prim.Native.Nat.{◌-◌}
use lib.Dec.{eqb}
use borrow.Author.Tests.{eq-eqb, ne_eqb}
use Rattle.tables.specs.answers.Tree.{is_below}
use Rattle.records.specs.answers.Check.{sound_parent}
use Rattle.records.proofs.CodeParent.{sound_first, sound_later}
use Rattle.records.proofs.nodes.sound_parent.Goals as goal
use Rattle.records.proofs.nodes.sound_parent.Goals.{Else-i-eq0}

pub returns-then-i-eq0 : goal.returns-then-i-eq0
returns-then-i-eq0 c = sound_first _ _ _ c.if-i-eq0.true c.node_word-parent.ensures

-- the rule of a record after the first
later :
    (c : Else-i-eq0) →
    let a = c.args in
    let w = c.node_word-parent.result in
    cond (eqb w (a.i - 1)) true (is_below a.nodes.now (a.i - 1) w) ≡ sound_parent a.nodes.now a.i
later c =
    sound_later _ _ _ c.if-i-eq0.false c.node_word-parent.ensures

pub returns-then-parent-before : goal.returns-then-parent-before
returns-then-parent-before c =
    let one = eq-eqb _ _ c.if-parent-before.true in
    one ∙ rw one at (later (goal.at.returns-then-parent-before c).Else-i-eq0)

pub returns-else-parent-before : goal.returns-else-parent-before
returns-else-parent-before c =
    c.is_below.ensures ∙ rw (ne_eqb _ _ c.if-parent-before.false) at (later (goal.at.returns-else-parent-before c).Else-i-eq0)
