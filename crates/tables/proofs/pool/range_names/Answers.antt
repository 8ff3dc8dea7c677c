-- SPDX-License-Identifier: BSD-2-Clause OR GPL-2.0-or-later
-- `range_names` tests a range and compares its bytes with those of a name. Assumes nothing.
use mathlib.Core.Path.{◌∙◌}
use mathlib.Core.Logic.{⊎_elim}
use native.Mathlib.Omega.{arith}
use Rattle.tables.proofs.CodePool.{other_length, range_outside, range_chunk, same_pointwise}
use Rattle.tables.proofs.pool.range_names.Goals as goal

pub returns-then-len : goal.returns-then-len
returns-then-len g c = other_length _ _ _ _ (λ same. c.if-len.true (same ∙ c.told-name))

pub returns-in_default : goal.returns-in_default
returns-in_default g c =
    let a = c.args in
    range_outside a.pool.now a.offset a.len a.name.now (⊎_elim (λ past. omega arith) (λ no. omega arith) c.in_default.ensures.lookup.0)

pub returns-in_default-first_chunk : goal.returns-in_default-first_chunk
returns-in_default-first_chunk g c =
    let a = c.args in
    range_outside a.pool.now a.offset a.len a.name.now
    (omega (arith, c.in-Some.ensures.lookup.0, c.in_default-first_chunk.ensures.cases, c.if-len.false))

pub returns : goal.returns
returns g c =
    let a = c.args in
    let part = c.in-Some.ensures.lookup.0 in
    c.eq.ensures ∙ same_pointwise _ _
    ∙ range_chunk a.pool.now _ _ a.name.now a.offset a.len part.0 part.2 (rw c.if-len.false c.in-Some-first_chunk.ensures.cases)
