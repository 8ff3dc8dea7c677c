-- SPDX-License-Identifier: BSD-2-Clause OR GPL-2.0-or-later
-- `first_broken` tells the lowest place at which the test tells a rule: it tells none below i. Assumes nothing.
use mathlib.Core.Path.{◌≡◌}
use Prim.Native.Nat.{ℕ, ◌<◌}
use Rattle.laws.specs.answers.Fault.{clear, first_fault}
use Rattle.laws.specs.answers.Told.{number_in}
use Rattle.laws.proofs.first.first_broken.Given as goal

abbrev pub invariant-loop-i : goal.invariant-loop-i
invariant-loop-i g l =
    (f : ℕ → ℕ) → ((i : ℕ) (r : _) → i < l.fn.n → goal.F-post g l.fn.check i r → number_in r ≡ f i) → first_fault f l.i ≡ clear
