-- SPDX-License-Identifier: BSD-2-Clause OR GPL-2.0-or-later
-- `record_check` meets its contract: a leaf and the cpu that it names, or no leaf. Assumes nothing.
use native.Mathlib.Omega.{arith}
use lib.ListN.{length}
use borrow.Author.Tests.{lt-ltb, le-ltb}
use Rattle.leaves.specs.answers.Check.{leaf_cpu, record_check}
use Rattle.leaves.proofs.check.record_check.Goals as goal

pub returns-in-Ok-false-clause-answer : goal.returns-in-Ok-false-clause-answer
unfolding record_check
returns-in-Ok-false-clause-answer c = rw (← c.in-Ok-false.ensures, c.in-Ok-false.field-0-test)

pub returns-in-Err-clause-answer : goal.returns-in-Err-clause-answer
unfolding record_check
returns-in-Err-clause-answer c = rw (c.at.ensures, ← c.in-Err.ensures)

pub returns-in-Some-clause-answer : goal.returns-in-Some-clause-answer
unfolding record_check leaf_cpu
returns-in-Some-clause-answer c =
    let named = c.in-Some.ensures in
    rw (← c.in-Ok-true.ensures, c.in-Ok-true.field-0-test, ← c.find_indexed-found.ensures.answer, ← named.index, lt-ltb _ _ named.within)

pub returns-clause-answer : goal.returns-clause-answer
unfolding record_check leaf_cpu
returns-clause-answer c =
    let none = c.in_default.ensures in
    let known = length c.args.phandles.now in
    rw (← c.in-Ok-true.ensures, c.in-Ok-true.field-0-test, ← c.find_indexed-found.ensures.answer, ← none.index)
    (rw (le-ltb known known (omega arith), c.record_of.ensures.record))
