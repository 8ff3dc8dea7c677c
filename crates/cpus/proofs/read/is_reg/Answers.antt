-- SPDX-License-Identifier: BSD-2-Clause OR GPL-2.0-or-later
-- `is_reg` meets its contract. Assumes nothing.
use borrow.Author.Tests.{eq-eqb, ne_eqb}
use Rattle.cpus.specs.answers.Cell.{is_reg}
use Rattle.cpus.proofs.read.is_reg.Goals as goal

pub returns-then-width-eq-RISCV : goal.returns-then-width-eq-RISCV
unfolding is_reg
returns-then-width-eq-RISCV c = rw (eq-eqb _ _ c.if-width-eq-RISCV.true)

pub returns-else-width-eq-RISCV : goal.returns-else-width-eq-RISCV
unfolding is_reg
returns-else-width-eq-RISCV c = rw (ne_eqb _ _ c.if-width-eq-RISCV.false) c.is_affine.ensures
