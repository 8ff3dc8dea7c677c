-- SPDX-License-Identifier: BSD-2-Clause OR GPL-2.0-or-later
-- `gather` makes the or and the and of the list in one pass. Assumes nothing.
use mathlib.Core.Path.{◌≡◌}
use Rattle.affinity.specs.steps.Mask.{some_below}
use Rattle.affinity.proofs.MaskLaws.{all_below}
use Rattle.affinity.proofs.mask.gather.Given as goal

abbrev pub invariant-loop-mpidr : goal.invariant-loop-mpidr
invariant-loop-mpidr l = (l.some ≡ some_below l.list l.mpidr-index) × (l.all ≡ all_below l.list l.mpidr-index)
