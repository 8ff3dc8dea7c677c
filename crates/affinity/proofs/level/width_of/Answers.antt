-- SPDX-License-Identifier: BSD-2-Clause OR GPL-2.0-or-later
-- `width_of` takes the leading zeros and low off the eight bits of a part. Assumes nothing.
use mathlib.Core.Path.{ap}
use Prim.Native.Nat.{◌-◌}
use native.Mathlib.Omega.{arith}
use Rattle.affinity.specs.answers.Level.{top_of, width_of}
use Rattle.affinity.proofs.LevelLaws.{low_width}
use Rattle.affinity.proofs.level.width_of.Goals as goal

pub overflow_sub-result-2 : goal.overflow_sub-result-2
unfolding top_of
overflow_sub-result-2 c = let part = c.args.part in omega (arith, low_width part (omega arith))

pub returns : goal.returns
unfolding width_of top_of
returns c = ap (◌-◌ (top_of c.args.part)) c.low_of.ensures
