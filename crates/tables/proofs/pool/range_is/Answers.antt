-- SPDX-License-Identifier: BSD-2-Clause OR GPL-2.0-or-later
-- `range_is` tests a range and compares its bytes. Assumes nothing.
use mathlib.Core.Path.{◌≡◌, sym, ◌∙◌}
use Prim.Native.Nat.{◌+◌, ◌-◌}
use native.Mathlib.Omega.{arith}
use Rattle.tables.specs.answers.Range.{range_is}
use Rattle.tables.proofs.CodePool.{other_length, same_pointwise}
use Rattle.tables.proofs.pool.range_is.Goals as goal

pub returns-then-len-bytes : goal.returns-then-len-bytes
returns-then-len-bytes c = other_length _ _ _ _ c.if-len-bytes.true

pub returns-then-not-is_inside : goal.returns-then-not-is_inside
unfolding range_is
returns-then-not-is_inside c = rw (sym c.is_inside.ensures ∙ c.if-not-is_inside.true)

pub returns-then-same_last : goal.returns-then-same_last
unfolding range_is
returns-then-same_last c =
    let a = c.args in
    let e : a.offset + a.len - a.offset ≡ a.len = omega arith in
    rw (sym c.is_inside.ensures ∙ c.if-not-is_inside.false) ((rw e at c.eq.ensures) ∙ same_pointwise _ _)

pub returns-else-same_last : goal.returns-else-same_last
unfolding range_is
returns-else-same_last c =
    let a = c.args in
    let e : a.offset + a.len - a.offset ≡ a.len = omega arith in
    rw (sym c.is_inside.ensures ∙ c.if-not-is_inside.false) (c.if-same_last.false ∙ sym (rw e at (c.same_last.ensures c.if-same_last.false)))
