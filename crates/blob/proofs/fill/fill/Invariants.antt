-- SPDX-License-Identifier: BSD-2-Clause OR GPL-2.0-or-later
use Prim.Native.Nat.{◌-◌}
use lib.ListN.{length}
use Rattle.flat.specs.answers.Fill.{filled_from}
use Rattle.blob.proofs.FillingLaws.{Filling}
use Rattle.blob.proofs.fill.fill.Given as goal

abbrev pub invariant-loop-at : goal.invariant-loop-at
invariant-loop-at l =
    Filling l.block l.strings l.base l.initial.nodes l.initial.props (filled_from l.block l.strings l.base l.first) l.at l.top l.count l.owned
    l.nodes
    l.props

abbrev pub decreases-loop-at : goal.decreases-loop-at
decreases-loop-at l = length l.block - l.at
