-- SPDX-License-Identifier: BSD-2-Clause OR GPL-2.0-or-later
-- `low_of` counts the trailing zeros of a part that is not zero. Assumes nothing.
use mathlib.Core.Path.{sym}
use native.Mathlib.Omega.{arith}
use Rattle.affinity.specs.answers.Level.{low_of}
use Rattle.affinity.proofs.LevelLaws.{low_is}
use Rattle.affinity.proofs.level.low_of.Goals as goal

pub returns-then-part-eq0 : goal.returns-then-part-eq0
unfolding low_of
returns-then-part-eq0 c = rw c.if-part-eq0.true

pub returns-else-part-eq0 : goal.returns-else-part-eq0
returns-else-part-eq0 c = sym (low_is _ (omega arith))
