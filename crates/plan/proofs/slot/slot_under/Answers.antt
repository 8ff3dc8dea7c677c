-- SPDX-License-Identifier: BSD-2-Clause OR GPL-2.0-or-later
-- `slot_under` adds the bit at each position at its place. Assumes nothing.
use mathlib.Core.Path.{◌≡◌, refl, ap, ◌∙◌}
use Prim.Native.Nat.{ℕ}
use native.Mathlib.Omega.{arith}
use lib.ListN.{length, get_or}
use Rattle.laws.specs.facts.Digit.{digit}
use Rattle.laws.specs.answers.FromDigits.{from_digits}
use Rattle.laws.proofs.DigitLaws.{digit_lt}
use Rattle.plan.specs.answers.Slot.{slot_under}
use Rattle.plan.proofs.PositionLaws.{bit_lt, positions_few}
use Rattle.plan.proofs.SlotLaws.{digit_step, digit_fits}
use Rattle.plan.proofs.slot.slot_under.Goals as goal

pub loop-i-init : goal.loop-i-init
unfolding from_digits
loop-i-init c = refl

pub overflow_cast-bit : goal.overflow_cast-bit
overflow_cast-bit c = omega (arith, c.type_inv.positions c.loop-i.i)

pub overflow_shr-bit : goal.overflow_shr-bit
overflow_shr-bit c =
    let i = c.loop-i.i in
    omega (arith, bit_lt _ (c.requires.affine i (omega arith)))

pub overflow_cast-slot : goal.overflow_cast-slot
overflow_cast-slot c = omega (arith, positions_few _ c.requires)

pub overflow_shl-slot : goal.overflow_shl-slot
overflow_shl-slot c = omega (arith, positions_few _ c.requires)

pub overflow_add-slot : goal.overflow_add-slot
unfolding digit
overflow_add-slot c =
    let loop = c.loop-i in
    let d : ℕ → ℕ = λ n. digit c.args.mpidr (get_or c.args.positions.now n 0) in
    omega (arith, loop.invariant, digit_fits d (λ k. digit_lt _ _) loop.i (omega (arith, positions_few _ c.requires)))

pub loop-i-preserved : goal.loop-i-preserved
unfolding digit
loop-i-preserved c =
    let loop = c.loop-i in
    let d : ℕ → ℕ = λ n. digit c.args.mpidr (get_or c.args.positions.now n 0) in
    rw loop.invariant (digit_step d (λ k. digit_lt _ _) loop.i (omega (arith, positions_few _ c.requires)))

pub returns : goal.returns
unfolding slot_under
returns c =
    let a = c.args in
    let loop = c.loop-i in
    let end : loop.i ≡ length a.positions.now = omega arith in
    loop.invariant ∙ ap (from_digits (λ n. digit a.mpidr (get_or a.positions.now n 0))) end
