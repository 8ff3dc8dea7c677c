-- SPDX-License-Identifier: BSD-2-Clause OR GPL-2.0-or-later
-- `find_property` finds the lowest property of that name: none of the first k records is one. Assumes nothing.
use mathlib.Core.Path.{◌≡◌}
use Rattle.laws.specs.answers.Search.{lowest}
use Rattle.tables.specs.answers.Lookup.{is_property}
use Rattle.lookup.proofs.find_property.Given as goal

abbrev pub invariant-loop-k : goal.invariant-loop-k
invariant-loop-k l = lowest (is_property l.props l.pool l.node l.key) l.k ≡ l.k
