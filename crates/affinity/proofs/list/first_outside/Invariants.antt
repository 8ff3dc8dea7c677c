-- SPDX-License-Identifier: BSD-2-Clause OR GPL-2.0-or-later
-- `first_outside` goes through the list to the first with a bit outside. Assumes nothing.
use mathlib.Core.Path.{◌≡◌}
use lib.ListN.{get_or}
use Rattle.laws.specs.answers.Fault.{clear, first_fault}
use Rattle.affinity.specs.answers.List.{bit_fault}
use Rattle.affinity.proofs.list.first_outside.Given as goal

abbrev pub invariant-loop-i : goal.invariant-loop-i
invariant-loop-i l = first_fault (λ k. bit_fault (get_or l.list k 0)) l.i ≡ clear
