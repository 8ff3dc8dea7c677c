-- SPDX-License-Identifier: BSD-2-Clause OR GPL-2.0-or-later
-- `note` meets its contract. Assumes nothing.
use borrow.Author.Tests.{eq-eqb, ne_eqb}
use Rattle.property_index.specs.answers.Index.{noted}
use Rattle.property_index.proofs.index.note.Goals as goal

pub returns-then-table-at-eq0 : goal.returns-then-table-at-eq0
unfolding noted
returns-then-table-at-eq0 c = rw (eq-eqb _ _ c.if-table-at-eq0.true)

pub returns-else-table-at-eq0 : goal.returns-else-table-at-eq0
unfolding noted
returns-else-table-at-eq0 c = rw (ne_eqb _ _ c.if-table-at-eq0.false)
