-- SPDX-License-Identifier: BSD-2-Clause OR GPL-2.0-or-later
-- `hash_of_mask` fills the four shifts, level by level. Assumes nothing.
use mathlib.Core.Path.{◌≡◌}
use lib.ListN.{length, take}
use Rattle.affinity.specs.answers.Hash.{bits_below, shifts_of}
use Rattle.affinity.proofs.slot.hash_of_mask.Given as goal

abbrev pub invariant-loop-level : goal.invariant-loop-level
invariant-loop-level l = (l.bits ≡ bits_below l.mask l.level) × (length l.shifts ≡ 4) × (take l.level l.shifts ≡ take l.level (shifts_of l.mask))
