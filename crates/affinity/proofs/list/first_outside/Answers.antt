-- SPDX-License-Identifier: BSD-2-Clause OR GPL-2.0-or-later
-- `first_outside` goes through the list to the first with a bit outside. Assumes nothing.
use mathlib.Core.Path.{refl}
use native.Mathlib.Omega.{arith}
use Rattle.laws.specs.answers.Fault.{first_fault}
use Rattle.laws.proofs.FaultLaws.{clear_more, at_fault, at_end}
use Rattle.affinity.specs.answers.List.{first_outside}
use Rattle.affinity.proofs.list.first_outside.Goals as goal

pub loop-i-init : goal.loop-i-init
unfolding first_fault
loop-i-init c = refl

pub returns-then-not-is_affine : goal.returns-then-not-is_affine
unfolding first_outside
returns-then-not-is_affine c =
    rw c.broken_at.ensures
    (at_fault _ _ _ (omega arith) c.loop-i.invariant
    (rw (← c.is_affine.ensures, c.if-not-is_affine.true)) (λ z. omega arith))

pub loop-i-preserved : goal.loop-i-preserved
loop-i-preserved c =
    clear_more _ _ c.loop-i.invariant refl
    (rw (← c.is_affine.ensures, c.if-not-is_affine.false))

pub returns : goal.returns
unfolding first_outside
returns c = at_end _ _ _ (omega arith) c.loop-i.invariant
