-- SPDX-License-Identifier: BSD-2-Clause OR GPL-2.0-or-later
-- `survey` meets its contract. The invariant: what the whole walk gives is what the rest of it gives. The measure: what is left of the block.
-- Assumes nothing.
use native.Mathlib.Omega.{arith}
use Rattle.stream.specs.answers.Walk.{walk}
use Rattle.stream.proofs.WalkLaws.{Stepped, walked_start, walked_step, walked_end}
use Rattle.stream.proofs.walking.survey.Goals as goal
use Rattle.stream.proofs.walking.survey.Goals.{After-step}

pub loop-w-init : goal.loop-w-init
loop-w-init c =
    let a = c.args in
    let zero = c.default.ensures.1 in
    let rest = zero.1.1.1.1 in
    rw (zero.0, zero.1.1.0, zero.1.1.1.0, rest.0, rest.1.0, rest.1.1) (walked_start a.block.now a.named (omega arith) a.start)

-- the token at hand
stepped :
    (c : After-step) →
    let a = c.args in
    Stepped a.block.now a.named (walk a.block.now a.named a.start) c.loop-w.w.at c.step.result
stepped c =
    let a = c.args in
    walked_step a.block.now a.named (omega arith) c.loop-w.invariant c.loop-w-test.true c.step.result
    (rw (← c.token_at.ensures) c.step.ensures)

pub loop-w-smaller : goal.loop-w-smaller
loop-w-smaller c = omega (arith, (rw c.in-On.is at (stepped (goal.at.loop-w-smaller c).After-step)).1)

pub loop-w-preserved : goal.loop-w-preserved
loop-w-preserved c = (rw c.in-On.is at (stepped (goal.at.loop-w-preserved c).After-step)).0

pub returns-in-Ends : goal.returns-in-Ends
returns-in-Ends c =
    let s = rw c.in-Ends.is at (stepped (goal.at.returns-in-Ends c).After-step) in
    record { walk = s.0; bounded = s.1 }

pub returns-in-Breaks : goal.returns-in-Breaks
returns-in-Breaks c =
    let s = rw c.in-Breaks.is at (stepped (goal.at.returns-in-Breaks c).After-step) in
    record { walk = s.0; bounded = s.1 }

pub returns : goal.returns
returns c =
    let a = c.args in
    record { walk = walked_end a.block.now a.named (omega arith) c.loop-w.invariant c.loop-w-test.false; bounded = omega arith }
