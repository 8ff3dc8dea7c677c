-- SPDX-License-Identifier: BSD-2-Clause OR GPL-2.0-or-later
-- `mask_for` is the mask of MPIDRs alone. Assumes nothing.
use borrow.Author.Tests.{eq-eqb, ne_eqb}
use Rattle.rows.proofs.slots.mask_for.Goals as goal

pub returns-then-width-eq-RISCV : goal.returns-then-width-eq-RISCV
returns-then-width-eq-RISCV c = rw (eq-eqb _ _ c.if-width-eq-RISCV.true)

pub returns : goal.returns
returns c = rw (ne_eqb _ _ c.if-width-eq-RISCV.false) c.mask_of.ensures.answer
