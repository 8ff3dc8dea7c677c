-- SPDX-License-Identifier: BSD-2-Clause OR GPL-2.0-or-later
-- `dropped` tries the list without one of the bits to keep. Assumes nothing.
use mathlib.Core.Path.{sym, ◌∙◌}
use native.Mathlib.Omega.{arith}
use borrow.Author.Tests.{eq-eqb, ne_eqb}
use Rattle.laws.specs.facts.Digit.{digit}
use Rattle.plan.specs.answers.Planner.{dropped}
use Rattle.plan.proofs.DigitLessLaws.{one_le, pow_shl}
use Rattle.plan.proofs.planner.dropped.Goals as goal

pub overflow_sub-fewer : goal.overflow_sub-fewer
unfolding digit
overflow_sub-fewer c =
    let a = c.args in
    rw (pow_shl a.k (omega arith)) (one_le a.keep a.k c.if-keep-k-eq1.true)

pub returns-then-not-clashes : goal.returns-then-not-clashes
unfolding digit dropped
returns-then-not-clashes c =
    let a = c.args in
    let e = pow_shl a.k (omega arith) in
    let clear = rw e at (sym c.clashes.ensures ∙ c.if-not-clashes.true) in
    rw (eq-eqb _ 1 c.if-keep-k-eq1.true, e, clear)

pub returns-else-not-clashes : goal.returns-else-not-clashes
unfolding digit dropped
returns-else-not-clashes c =
    let a = c.args in
    let found = sym c.clashes.ensures ∙ c.if-not-clashes.false in
    rw (eq-eqb _ 1 c.if-keep-k-eq1.true, ← pow_shl a.k (omega arith), found)

pub returns-else-keep-k-eq1 : goal.returns-else-keep-k-eq1
unfolding digit dropped
returns-else-keep-k-eq1 c = rw (ne_eqb _ 1 c.if-keep-k-eq1.false)
