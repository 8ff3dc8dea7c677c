-- SPDX-License-Identifier: BSD-2-Clause OR GPL-2.0-or-later
-- `thinned` tries each bit, from the lowest up. Assumes nothing.
use mathlib.Core.Path.{◌≡◌, ap, ◌∙◌}
use native.Mathlib.Numerals.{add-one}
use native.Mathlib.Omega.{arith}
use Rattle.plan.specs.answers.Planner.{thinned}
use Rattle.plan.proofs.planner.thinned.Goals as goal

pub loop-k-init : goal.loop-k-init
unfolding thinned
loop-k-init c = c.requires

pub loop-k-preserved : goal.loop-k-preserved
unfolding thinned
loop-k-preserved c =
    let loop = c.loop-k in
    rw (add-one, ← loop.invariant) c.dropped-keep.ensures

pub returns : goal.returns
returns c =
    let loop = c.loop-k in
    let end : loop.k ≡ 40 = omega arith in
    loop.invariant ∙ ap (thinned c.args.list.now) end
