-- SPDX-License-Identifier: BSD-2-Clause OR GPL-2.0-or-later
-- `slot_under` adds the bit at each position at its place. Assumes nothing.
use mathlib.Core.Path.{◌≡◌}
use lib.ListN.{get_or}
use Rattle.laws.specs.facts.Digit.{digit}
use Rattle.laws.specs.answers.FromDigits.{from_digits}
use Rattle.plan.proofs.slot.slot_under.Given as goal

abbrev pub invariant-loop-i : goal.invariant-loop-i
invariant-loop-i l = l.slot ≡ from_digits (λ n. digit l.mpidr (get_or l.positions n 0)) l.i
