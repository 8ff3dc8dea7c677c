-- SPDX-License-Identifier: BSD-2-Clause OR GPL-2.0-or-later
-- `has_number` meets its contract: a name that ends otherwise has another number, and any other is read. Assumes nothing.
use mathlib.Core.Path.{sym, ◌∙◌}
use Rattle.cpumap.proofs.NumberLaws.{ends_apart}
use Rattle.cpumap.proofs.numbered.has_number.Goals as goal

pub returns-then-ends_otherwise : goal.returns-then-ends_otherwise
returns-then-ends_otherwise c = sym (ends_apart _ _ _ _ (sym c.ends_otherwise.ensures ∙ c.if-ends_otherwise.true))
