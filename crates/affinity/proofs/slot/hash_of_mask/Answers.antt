-- SPDX-License-Identifier: BSD-2-Clause OR GPL-2.0-or-later
-- `hash_of_mask` fills the four shifts, level by level. Assumes nothing.
use mathlib.Core.Path.{◌≡◌, refl}
use native.Mathlib.Omega.{arith}
use native.Mathlib.Numerals.{add-one}
use lib.ListN.{length-set}
use Rattle.laws.specs.facts.Sum.{sum_below}
use Rattle.affinity.specs.answers.Hash.{shift_of, shifts_of, hash_of_mask}
use Rattle.affinity.proofs.LevelLaws.{begin_le, begin_ge, low_le, width_le}
use Rattle.affinity.proofs.HashLaws.{bits_below_lem, shift_at}
use Rattle.laws.proofs.FillLaws.{fill_next, fill_all}
use Rattle.affinity.proofs.slot.hash_of_mask.Goals as goal

pub loop-level-init : goal.loop-level-init
unfolding sum_below
loop-level-init c = (refl, refl, refl)

pub overflow_add-shifts : goal.overflow_add-shifts
overflow_add-shifts c =
    let begin = c.level_begin.ensures in
    omega (arith, begin, begin_le c.loop-level.level, low_le c.level_part-part.result)

pub overflow_sub-shifts : goal.overflow_sub-shifts
overflow_sub-shifts c =
    let level = c.loop-level.level in
    omega (arith, c.level_begin.ensures, begin_ge level (omega arith), bits_below_lem c.args.mask level)

pub overflow_add-bits : goal.overflow_add-bits
overflow_add-bits c = omega (arith, bits_below_lem c.args.mask c.loop-level.level, width_le c.level_part-part.result)

pub loop-level-preserved : goal.loop-level-preserved
unfolding sum_below shift_of shifts_of
loop-level-preserved c =
    let loop = c.loop-level in
    let mask = c.args.mask in
    let part = c.level_part-part.ensures in (
      rw (add-one, c.width_of-bits.ensures, part, loop.invariant.0),
      simp length-set loop.invariant.1,
      fill_next
          loop.shifts
          (shifts_of mask)
          loop.level
          _
          0
          (omega arith)
          (omega arith)
          loop.invariant.2
          (rw (c.level_begin.ensures, c.low_of.ensures, part, loop.invariant.0) (shift_at mask loop.level (omega arith))),
    )

pub returns : goal.returns
unfolding hash_of_mask shifts_of
returns c =
    let loop = c.loop-level in
    let end : loop.level ≡ 4 = omega arith in
    let shifts = fill_all loop.shifts (shifts_of c.args.mask) 4 loop.invariant.1 refl (rw end at loop.invariant.2) in
    let bits = rw end at loop.invariant.0 in
    rw (shifts, bits)
