-- SPDX-License-Identifier: BSD-2-Clause OR GPL-2.0-or-later
-- `find_indexed` meets its contract: a word of the table tells. Assumes nothing.
use Rattle.std.specs.Prelude.{Some}
use mathlib.Core.Path.{ap, ◌∙◌}
use Prim.Native.Nat.{◌<◌}
use native.Mathlib.Omega.{arith}
use Rattle.property_index.proofs.IndexLaws.{index_meets}
use Rattle.property_index.proofs.KeyLaws.{number_lt}
use Rattle.property_index.proofs.CodeLaws.{key_beyond, key_none, key_some}
use Rattle.property_index.proofs.index.find_indexed.Goals as goal
use Rattle.property_index.proofs.index.find_indexed.Goals.{After-number}

pub returns-then-i-ge-MAX_NODES : goal.returns-then-i-ge-MAX_NODES
returns-then-i-ge-MAX_NODES c =
    let a = c.args in
    let beyond = key_beyond a.props.now a.table.now a.i a.key (omega arith) in
    let meets = index_meets a.props.now a.table.now a.i a.key beyond in
    record { answer = meets.0; as_lookup = meets.1.0; finds = meets.1.1 }

-- the key's number is below 4
number : (c : After-number) → c.number.result < 4
number c =
    rw c.number.ensures (number_lt c.args.key)

pub overflow_add-i : goal.overflow_add-i
overflow_add-i c = omega (arith, number (goal.at.overflow_add-i c).After-number)

pub offset_bounds-table-i : goal.offset_bounds-table-i
offset_bounds-table-i c = omega (arith, number (goal.at.offset_bounds-table-i c).After-number)

pub bounds-table-i : goal.bounds-table-i
bounds-table-i c = omega (arith, number (goal.at.bounds-table-i c).After-number)

pub returns-in_err-k : goal.returns-in_err-k
returns-in_err-k c =
    let a = c.args in
    let none = key_none a.props.now a.table.now a.i a.key c.number.ensures c.from.ensures (omega (arith, c.in_err-k.ensures)) in
    let meets = index_meets a.props.now a.table.now a.i a.key none in
    rw c.from_residual.ensures (record { answer = meets.0; as_lookup = meets.1.0; finds = meets.1.1 })

pub returns : goal.returns
returns c =
    let a = c.args in
    let some = ap Some c.found_at.ensures ∙ key_some a.props.now a.table.now a.i a.key c.number.ensures c.from.ensures (omega (arith, c.in_ok-k.ensures.0, c.in_ok-k.ensures.1)) in
    let meets = index_meets a.props.now a.table.now a.i a.key some in
    record { answer = meets.0; as_lookup = meets.1.0; finds = meets.1.1 }
