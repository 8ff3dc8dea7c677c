-- SPDX-License-Identifier: BSD-2-Clause OR GPL-2.0-or-later
-- `keep_of` adds the bit of each position. Assumes nothing.
use mathlib.Core.Path.{◌≡◌, refl, ap, ◌∙◌}
use native.Mathlib.Numerals.{add-one}
use native.Mathlib.Omega.{arith}
use lib.ListN.{length, get_or}
use Rattle.plan.specs.answers.Check.{keep_below}
use Rattle.plan.proofs.DigitLessLaws.{pow_shl}
use Rattle.plan.proofs.PositionLaws.{bit_lt}
use Rattle.plan.proofs.check.keep_of.Goals as goal

pub loop-p-init : goal.loop-p-init
unfolding keep_below
loop-p-init c = refl

pub overflow_shl-keep : goal.overflow_shl-keep
overflow_shl-keep c =
    let i = c.loop-p.p-index in
    omega (arith, bit_lt _ (c.requires.affine i (omega arith)))

pub loop-p-preserved : goal.loop-p-preserved
unfolding keep_below
loop-p-preserved c =
    let loop = c.loop-p in
    let low = bit_lt _ (c.requires.affine loop.p-index (omega arith)) in
    rw (add-one, pow_shl (get_or c.args.positions.now loop.p-index 0) (omega arith), loop.invariant)

pub returns : goal.returns
returns c =
    let positions = c.args.positions.now in
    let loop = c.loop-p in
    let end : loop.p-index ≡ length positions = omega arith in
    loop.invariant ∙ ap (keep_below positions) end
