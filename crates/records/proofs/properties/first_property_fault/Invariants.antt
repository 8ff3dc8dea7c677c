-- SPDX-License-Identifier: BSD-2-Clause OR GPL-2.0-or-later
-- `first_property_fault` tells the lowest property that breaks 7 or 8: none below k does, each is noted for its node, and none below
-- j repeats property k. Assumes nothing.
use mathlib.Core.Path.{◌≡◌}
use mathlib.Core.Bool.{false}
use lib.ListN.{length}
use Rattle.laws.specs.answers.Fault.{clear, first_fault}
use Rattle.laws.specs.answers.Search.{any_below}
use Rattle.records.specs.answers.Check.{same_property, property_fault}
use Rattle.records.proofs.CodeStarts.{Noted}
use Rattle.records.proofs.properties.first_property_fault.Given as goal

abbrev pub invariant-loop-j : goal.invariant-loop-j
invariant-loop-j l = any_below (same_property l.props l.pool l.k) l.j ≡ false

abbrev pub invariant-loop-k : goal.invariant-loop-k
invariant-loop-k l = (first_fault (property_fault l.count l.props l.pool) l.k ≡ clear) × (length l.starts ≡ 1024) × Noted l.props l.starts l.k
