-- SPDX-License-Identifier: BSD-2-Clause OR GPL-2.0-or-later
-- `thinned` tries each bit, from the lowest up. Assumes nothing.
use mathlib.Core.Path.{◌≡◌}
use Rattle.plan.specs.answers.Planner.{thinned}
use Rattle.plan.proofs.planner.thinned.Given as goal

abbrev pub invariant-loop-k : goal.invariant-loop-k
invariant-loop-k l = l.keep ≡ thinned l.list l.k
