-- SPDX-License-Identifier: BSD-2-Clause OR GPL-2.0-or-later
-- `find_property` finds the lowest property of that name: none of the first k records is one. Assumes nothing.
use Rattle.std.specs.Prelude.{Some}
use mathlib.Core.Path.{sym, ap, ◌∙◌}
use native.Mathlib.Omega.{arith}
use Rattle.laws.proofs.SearchLaws.{lowest_more}
use Rattle.lookup.proofs.CodeLookup.{found_at_lem, found_none, none_yet}
use Rattle.lookup.proofs.FindsLaws.{lookup_meets}
use Rattle.lookup.proofs.find_property.Goals as goal

pub loop-k-init : goal.loop-k-init
loop-k-init c = none_yet _ _ _ _

pub returns-then-is_property : goal.returns-then-is_property
returns-then-is_property c =
    let a = c.args in
    let found =
    ap Some c.found_at.ensures
    ∙ found_at_lem a.props.now a.pool.now a.node a.key.now _ c.loop-k.invariant (sym c.is_property.ensures ∙ c.if-is_property.true) c.loop-k-test.true in
    let meets = lookup_meets a.props.now a.pool.now a.node a.key.now found in
    record { answer = meets.0; finds = meets.1 }

pub loop-k-preserved : goal.loop-k-preserved
loop-k-preserved c = lowest_more _ _ c.loop-k.invariant (sym c.is_property.ensures ∙ c.if-is_property.false)

pub returns : goal.returns
returns c =
    let a = c.args in
    let none = found_none a.props.now a.pool.now a.node a.key.now _ (omega arith) c.loop-k.invariant in
    let meets = lookup_meets a.props.now a.pool.now a.node a.key.now none in
    record { answer = meets.0; finds = meets.1 }
