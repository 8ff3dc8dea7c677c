-- SPDX-License-Identifier: BSD-2-Clause OR GPL-2.0-or-later
-- `zero_from` finds the next zero byte. Assumes nothing.
use mathlib.Core.Path.{sym}
use mathlib.Core.Logic.{⊎_elim}
use native.Mathlib.Omega.{arith}
use Rattle.std.proofs.Common.{rules}
use Rattle.tokens.proofs.ZeroLaws.{zero_end, zero_found, zero_nowhere}
use Rattle.tokens.proofs.zero.zero_from.Goals as goal

pub returns-in_default : goal.returns-in_default
returns-in_default c =
    let a = c.args in
    sym (zero_end a.bytes.now a.from (⊎_elim (λ past. omega arith) (λ no. omega arith) c.in_default.ensures.lookup.0))

pub returns-in-Some-position : goal.returns-in-Some-position
returns-in-Some-position c =
    let part = c.in-Some.ensures.lookup.0 in
    zero_found c.args.bytes.now c.in-Some.rest.now c.args.from part.0 part.2 c.in-Some-position.i (search rules) (search rules) (search rules)

pub returns-in-None : goal.returns-in-None
returns-in-None c =
    let part = c.in-Some.ensures.lookup.0 in
    zero_nowhere c.args.bytes.now c.in-Some.rest.now c.args.from part.0 part.2 (search rules)
