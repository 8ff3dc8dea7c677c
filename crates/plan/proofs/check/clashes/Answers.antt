-- SPDX-License-Identifier: BSD-2-Clause OR GPL-2.0-or-later
-- `clashes` goes through the list to the first that clashes with one before it. Assumes nothing.
use Rattle.std.proofs.Common.{rules, tests}
use Rattle.std.proofs.lemmas.Iterator.{YieldsList-from_range}
use Rattle.std.proofs.lemmas.Iterator.Search.{any_from_yields_List}
use mathlib.Core.Path.{refl, ◌∙◌}
use native.Mathlib.Omega.{arith}
use lib.ListN.{length}
use Rattle.plan.specs.answers.Check.{clashes_at, clashes}
use Rattle.plan.proofs.AnyLaws.{any_range}
use Rattle.plan.proofs.check.clashes.Goals as goal

pub returns : goal.returns
unfolding clashes
returns c =
    let a = c.args in
    let n = length a.list.now in
    any_from_yields_List (clashes_at a.list.now a.keep) _ _ c.any.result c.any.ensures.ran (YieldsList-from_range 0 n n refl (omega arith))
    (λ x b q k. search (rules, tests))
    ∙ any_range (clashes_at a.list.now a.keep) n
