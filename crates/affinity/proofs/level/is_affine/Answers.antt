-- SPDX-License-Identifier: BSD-2-Clause OR GPL-2.0-or-later
-- `is_affine` tests the bits above 39 and those between the levels. Assumes nothing.
use Rattle.affinity.specs.answers.Level.{is_affine}
use borrow.Author.Tests.{eq-eqb, ne_eqb}
use Rattle.affinity.proofs.level.is_affine.Goals as goal

pub returns-then-mpidr-eq0 : goal.returns-then-mpidr-eq0
unfolding is_affine
returns-then-mpidr-eq0 c = rw (eq-eqb _ 0 c.if-mpidr-eq0.true)

pub returns-else-mpidr-eq0 : goal.returns-else-mpidr-eq0
unfolding is_affine
returns-else-mpidr-eq0 c = rw (ne_eqb _ 0 c.if-mpidr-eq0.false)
