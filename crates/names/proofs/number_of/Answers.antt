-- SPDX-License-Identifier: BSD-2-Clause OR GPL-2.0-or-later
-- `number_of` meets its contract: the value so far and the digits left give the number. Assumes nothing.
use mathlib.Core.Path.{sym, ◌∙◌}
use native.Mathlib.Omega.{arith}
use borrow.Author.Tests.{eq-eqb, ne_eqb, lt-ltb, le-ltb}
use Rattle.names.specs.answers.Name.{number_of}
use Rattle.names.proofs.NameLaws.{digits_more, digits_stop, digits_end, power_le, power_next}
use Rattle.names.proofs.number_of.Goals as goal
use Rattle.names.proofs.number_of.Goals.{then-n-eq0-via-then-n-eq0, then-n-eq0-via-else-n-eq0+then-n-gt4}
use Rattle.names.proofs.number_of.Goals.{else-n-gt1-via-then-n-gt1+else-digits-eq48, else-n-gt1-via-else-n-gt1}

pub returns-then-n-eq0 : goal.returns-then-n-eq0
unfolding number_of
returns-then-n-eq0 c =
    elim c.then-n-eq0.branch [
      | then-n-eq0-via-then-n-eq0 w ↦ rw (eq-eqb _ _ w.if-n-eq0.true)
      | then-n-eq0-via-else-n-eq0+then-n-gt4 w ↦ rw (ne_eqb _ _ w.if-n-eq0.false, lt-ltb _ _ w.if-n-gt4.true)
    ]

pub returns-then-digits-eq48 : goal.returns-then-digits-eq48
unfolding number_of
returns-then-digits-eq48 c =
    rw (
      ne_eqb _ _ c.if-n-eq0.false,
      le-ltb _ _ c.if-n-gt4.false,
      lt-ltb _ _ c.if-n-gt1.true,
      eq-eqb _ _ c.if-digits-eq48.true,
    )

pub loop-digit-init : goal.loop-digit-init
unfolding number_of
loop-digit-init c =
    let some = ne_eqb _ _ c.if-n-eq0.false in
    let few = le-ltb _ _ c.if-n-gt4.false in (
      omega arith,
      omega arith,
      elim c.else-n-gt1.branch [
        | else-n-gt1-via-then-n-gt1+else-digits-eq48 w ↦ rw (some, few, lt-ltb _ _ w.if-n-gt1.true, ne_eqb _ _ w.if-digits-eq48.false)
        | else-n-gt1-via-else-n-gt1 w ↦ rw (some, few, le-ltb _ _ w.if-n-gt1.false)
      ],
    )

pub returns-then-not-is_ascii_digit : goal.returns-then-not-is_ascii_digit
returns-then-not-is_ascii_digit c =
    let loop = c.loop-digit in
    sym (loop.invariant.2 ∙ digits_stop c.args.digits.now loop.value loop.digit-index c.loop-digit-test.true c.if-not-is_ascii_digit.ensures.cases)

pub overflow_mul-value : goal.overflow_mul-value
overflow_mul-value c = omega (arith, power_le c.loop-digit.digit-index (omega arith))

pub overflow_add-value : goal.overflow_add-value
overflow_add-value c = omega (arith, power_le c.loop-digit.digit-index (omega arith))

pub loop-digit-preserved : goal.loop-digit-preserved
loop-digit-preserved c =
    let loop = c.loop-digit in
    let digit = c.if-not-is_ascii_digit.ensures.cases in (
      loop.invariant.0,
      omega (arith, power_next loop.digit-index, digit.1, c.from.ensures),
      loop.invariant.2 ∙ rw c.from.ensures (digits_more c.args.digits.now loop.value loop.digit-index c.loop-digit-test.true digit),
    )

pub returns : goal.returns
returns c =
    let loop = c.loop-digit in
    sym (loop.invariant.2 ∙ digits_end c.args.digits.now loop.value loop.digit-index (omega arith))
