-- SPDX-License-Identifier: BSD-2-Clause OR GPL-2.0-or-later
-- `first_broken` tells the lowest place at which the test tells a rule: it tells none below i. Assumes nothing.
use Rattle.std.proofs.Common.{refl}
use native.Mathlib.Omega.{arith}
use Rattle.laws.specs.answers.Fault.{first_fault}
use Rattle.laws.proofs.FaultLaws.{clear_more, at_end}
use Rattle.laws.proofs.ToldLaws.{refused_at}
use Rattle.laws.proofs.first.first_broken.Goals as goal

pub loop-i-init : goal.loop-i-init
unfolding first_fault
loop-i-init g c = λ f told. refl

pub returns-in-Err : goal.returns-in-Err
returns-in-Err g c =
    λ f told.
    rw c.broken_at.ensures
    (refused_at f _ _ c.in-Err.rule c.loop-i-test.true (c.loop-i.invariant f told) (told _ _ c.loop-i-test.true c.in-Err.ensures))

pub loop-i-preserved : goal.loop-i-preserved
loop-i-preserved g c =
    λ f told. clear_more f _ (c.loop-i.invariant f told) (told _ _ c.loop-i-test.true c.in_default.ensures) refl

pub returns : goal.returns
returns g c = λ f told. at_end f _ _ (omega arith) (c.loop-i.invariant f told)
