-- SPDX-License-Identifier: BSD-2-Clause OR GPL-2.0-or-later
-- `ones_of` writes the place of each one behind those before it. Assumes nothing.
use mathlib.Core.Path.{◌≡◌}
use lib.Dec.{eqb}
use lib.ListN.{replicate}
use Rattle.laws.specs.facts.Digit.{digit}
use Rattle.laws.specs.answers.Search.{count_below, list_below}
use Rattle.laws.specs.answers.Listed.{laid_over}
use Rattle.plan.proofs.planner.ones_of.Given as goal

abbrev pub invariant-loop-k : goal.invariant-loop-k
invariant-loop-k l = (l.count ≡ count_below (λ k. eqb (digit l.keep k) 1) l.k)
    × (l.positions ≡ laid_over (list_below (λ k. eqb (digit l.keep k) 1) l.k) (replicate 32 0))
