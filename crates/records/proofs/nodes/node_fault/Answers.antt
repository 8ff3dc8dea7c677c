-- SPDX-License-Identifier: BSD-2-Clause OR GPL-2.0-or-later
-- `node_fault` tells the smaller of 5 and 6 that a record breaks. Assumes nothing.
use mathlib.Core.Path.{◌≡◌}
use mathlib.Core.Bool.{cond}
use Rattle.records.specs.answers.Check.{node_fault}
use Rattle.records.proofs.nodes.node_fault.Goals as goal
use Rattle.records.proofs.nodes.node_fault.Goals.{After-sound_parent-placed}

-- the number by the two tests
tests :
    (c : After-sound_parent-placed) →
    let a = c.args in
    cond c.sound_name-named.result (cond c.sound_parent-placed.result 0 6) 5 ≡ node_fault a.nodes.now a.bytes a.i
unfolding node_fault
tests c =
    rw (
      c.sound_name-named.ensures,
      c.node_word-offset.ensures,
      c.node_word-len.ensures,
      c.sound_parent-placed.ensures,
    )

pub returns-then-not-named : goal.returns-then-not-named
returns-then-not-named c = rw c.if-not-named.true at (tests (goal.at.returns-then-not-named c).After-sound_parent-placed)

pub returns-then-not-placed : goal.returns-then-not-placed
returns-then-not-placed c = rw (c.if-not-named.false, c.if-not-placed.true) at (tests (goal.at.returns-then-not-placed c).After-sound_parent-placed)

pub returns : goal.returns
returns c = rw (c.if-not-named.false, c.if-not-placed.false) at (tests (goal.at.returns c).After-sound_parent-placed)
