-- SPDX-License-Identifier: BSD-2-Clause OR GPL-2.0-or-later
-- `first_unmapped` meets its contract: each index before k is marked. Assumes nothing.
use mathlib.Core.Path.{◌≡◌}
use Rattle.laws.specs.answers.Fault.{clear, first_fault}
use Rattle.leaves.specs.steps.Pass.{unmarked_fault}
use Rattle.leaves.proofs.scan.first_unmapped.Given as goal

abbrev pub invariant-loop-k : goal.invariant-loop-k
invariant-loop-k l = first_fault (unmarked_fault l.marks) l.k ≡ clear
