-- SPDX-License-Identifier: BSD-2-Clause OR GPL-2.0-or-later
-- `level_part` cuts the eight bits of a level out. Assumes nothing.
use Rattle.affinity.specs.facts.Level.{level_part}
use Rattle.affinity.proofs.level.level_part.Goals as goal

pub returns : goal.returns
unfolding level_part
returns c = rw c.level_begin-begin.ensures
