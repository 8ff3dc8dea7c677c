-- SPDX-License-Identifier: BSD-2-Clause OR GPL-2.0-or-later
-- `begun` meets its contract. Assumes nothing.
use borrow.Author.Tests.{eq-eqb, ne_eqb}
use Rattle.stream.specs.answers.Walk.{cpus_mark, begun}
use Rattle.stream.proofs.step.begun.Goals as goal
use Rattle.stream.proofs.step.begun.Goals.{then-is_cpus, else-is_cpus}

pub returns-after-is_cpus : goal.returns-after-is_cpus
unfolding begun cpus_mark
returns-after-is_cpus c =
    elim c.if-is_cpus.branch [
      | then-is_cpus w ↦ rw (eq-eqb _ _ c.if-w-eq1.true, ← c.range_is-is_cpus.ensures, c.from-mark.ensures, w.if-is_cpus.true, w.result-is)
      | else-is_cpus w ↦ rw (eq-eqb _ _ c.if-w-eq1.true, ← c.range_is-is_cpus.ensures, c.from-mark.ensures, w.if-is_cpus.false, w.result-is)
    ]

pub returns-else-w-eq1 : goal.returns-else-w-eq1
unfolding begun
returns-else-w-eq1 c = rw (ne_eqb _ _ c.if-w-eq1.false)
