-- SPDX-License-Identifier: BSD-2-Clause OR GPL-2.0-or-later
-- `bad_positions` goes through the positions to the first bad one. Assumes nothing.
use Rattle.std.proofs.Common.{rules, tests}
use Rattle.std.proofs.lemmas.Iterator.{YieldsList-from_range}
use Rattle.std.proofs.lemmas.Iterator.Search.{any_from_yields_List}
use mathlib.Core.Path.{refl, ◌∙◌}
use native.Mathlib.Omega.{arith}
use lib.ListN.{length}
use Rattle.plan.specs.answers.Check.{bad_position, bad_positions}
use Rattle.plan.proofs.AnyLaws.{any_range}
use Rattle.plan.proofs.check.bad_positions.Goals as goal

pub returns : goal.returns
unfolding bad_positions
returns c =
    let positions = c.args.positions.now in
    let n = length positions in
    any_from_yields_List (bad_position positions) _ _ c.any.result c.any.ensures.ran (YieldsList-from_range 0 n n refl (omega arith))
    (λ x b q k. search (rules, tests))
    ∙ any_range (bad_position positions) n
