-- SPDX-License-Identifier: BSD-2-Clause OR GPL-2.0-or-later
-- `keep_of` adds the bit of each position. Assumes nothing.
use mathlib.Core.Path.{◌≡◌}
use Rattle.plan.specs.answers.Check.{keep_below}
use Rattle.plan.proofs.check.keep_of.Given as goal

abbrev pub invariant-loop-p : goal.invariant-loop-p
invariant-loop-p l = l.keep ≡ keep_below l.positions l.p-index
