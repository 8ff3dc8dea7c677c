-- SPDX-License-Identifier: BSD-2-Clause OR GPL-2.0-or-later
-- `survey` meets its contract. The invariant: what the whole walk gives is what the rest of it gives. The measure: what is left of the block.
-- Assumes nothing.
use Prim.Native.Nat.{◌-◌}
use lib.ListN.{length}
use Rattle.stream.specs.answers.Walk.{walk}
use Rattle.stream.proofs.WalkLaws.{Walked}
use Rattle.stream.proofs.walking.survey.Given as goal

abbrev pub invariant-loop-w : goal.invariant-loop-w
invariant-loop-w l = Walked l.block l.named (walk l.block l.named l.start) l.w

abbrev pub decreases-loop-w : goal.decreases-loop-w
decreases-loop-w l = length l.block - l.w.at
