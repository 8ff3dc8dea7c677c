-- SPDX-License-Identifier: BSD-2-Clause OR GPL-2.0-or-later
-- `level_slot` keeps the ones of the mask in a level, and moves them. Assumes nothing.
use native.Mathlib.Omega.{arith}
use Rattle.affinity.specs.facts.Slot.{level_slot}
use Rattle.affinity.proofs.LevelLaws.{begin_le, ones_exact}
use Rattle.affinity.proofs.slot.level_slot.Goals as goal

pub overflow_cast-result : goal.overflow_cast-result
overflow_cast-result c = omega (arith, c.level_begin-begin.ensures, begin_le c.args.level)

pub overflow_shl-result : goal.overflow_shl-result
overflow_shl-result c = omega (arith, c.level_begin-begin.ensures, begin_le c.args.level)

pub returns : goal.returns
unfolding level_slot
returns c = rw (c.level_begin-begin.ensures, ones_exact c.args.level)
