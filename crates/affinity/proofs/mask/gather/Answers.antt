-- SPDX-License-Identifier: BSD-2-Clause OR GPL-2.0-or-later
-- `gather` makes the or and the and of the list in one pass. Assumes nothing.
use mathlib.Core.Path.{◌≡◌, refl, sym, ap}
use mathlib.Core.List.{List}
use Prim.Native.Nat.{ℕ}
use native.Mathlib.Omega.{arith}
use lib.ListN.{length}
use Rattle.affinity.specs.declared.mask.Gathered.{Gathered}
use Rattle.affinity.specs.steps.Mask.{some_below, gathered}
use Rattle.affinity.proofs.MaskLaws.{all_below, some_more, all_more, mask_is}
use Rattle.affinity.proofs.mask.gather.Goals as goal

abbrev given : List ℕ → ℕ → Gathered
given list m =
    record { some = some_below list (length list); mask = m }

pub loop-mpidr-init : goal.loop-mpidr-init
unfolding some_below all_below
loop-mpidr-init c = (refl, refl)

pub loop-mpidr-preserved : goal.loop-mpidr-preserved
loop-mpidr-preserved c =
    let loop = c.loop-mpidr in
    let list = c.args.list.now in
    (rw loop.invariant.0 (sym (some_more list loop.mpidr-index)), rw loop.invariant.1 (sym (all_more list loop.mpidr-index)))

pub returns : goal.returns
unfolding gathered
returns c =
    let loop = c.loop-mpidr in
    let list = c.args.list.now in
    let end : loop.mpidr-index ≡ length list = omega arith in
    rw (loop.invariant.0, loop.invariant.1, end) (ap (given list) (mask_is list))
