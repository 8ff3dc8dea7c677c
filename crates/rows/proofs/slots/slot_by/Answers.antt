-- SPDX-License-Identifier: BSD-2-Clause OR GPL-2.0-or-later
-- `slot_by` gives GAP, or the slot under the hash. Assumes nothing.
use borrow.Author.Tests.{eq-eqb, ne_eqb}
use Rattle.rows.proofs.slots.slot_by.Goals as goal

pub returns-then-slots-eq-RISCV : goal.returns-then-slots-eq-RISCV
returns-then-slots-eq-RISCV c = rw (eq-eqb _ _ c.if-slots-eq-RISCV.true)

pub returns : goal.returns
returns c = rw (ne_eqb _ _ c.if-slots-eq-RISCV.false) c.slot_of.ensures
