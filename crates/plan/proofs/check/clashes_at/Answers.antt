-- SPDX-License-Identifier: BSD-2-Clause OR GPL-2.0-or-later
-- `clashes_at` goes through the list up to an index to the first that clashes with the one there. Assumes nothing.
use Rattle.std.proofs.Common.{rules, tests}
use Rattle.std.proofs.lemmas.Iterator.{YieldsList-from_slice}
use Rattle.std.proofs.lemmas.Iterator.Search.{any_from_yields_List}
use mathlib.Core.Path.{◌∙◌}
use mathlib.Core.Bool.{Bool}
use Prim.Native.Nat.{ℕ}
use native.Mathlib.Omega.{arith}
use lib.ListN.{take, get_or}
use Rattle.plan.specs.answers.Check.{clash}
use Rattle.plan.proofs.AnyLaws.{any_part}
use Rattle.plan.proofs.check.clashes_at.Goals as goal

pub returns : goal.returns
returns c =
    let a = c.args in
    let test : ℕ → Bool = λ x. clash a.keep x (get_or a.list.now a.j 0) in
    any_from_yields_List test _ _ c.any.result c.any.ensures.ran (YieldsList-from_slice (take a.j a.list.now) cc)
    (λ x b q k. search (rules, tests))
    ∙ any_part test a.list.now a.j (omega arith)
