-- SPDX-License-Identifier: BSD-2-Clause OR GPL-2.0-or-later
-- `begin_at` meets its contract. Assumes nothing.
use Prim.Native.Nat.{◌+◌}
use native.Mathlib.Omega.{arith}
use Rattle.std.proofs.lemmas.Grind.{common_steps}
use Rattle.tokens.specs.answers.Read.{begin_read}
use Rattle.tokens.proofs.ZeroLaws.{zero_not_before, zero_inside}
use Rattle.tokens.proofs.token.begin_at.Goals as goal

pub overflow_sub-result : goal.overflow_sub-result
overflow_sub-result g c = let a = c.args in omega (arith, zero_not_before a.block.now (a.at + 4), c.zero_from-stop.ensures)

pub overflow_add-stop : goal.overflow_add-stop
overflow_add-stop g c = let a = c.args in omega (arith, c.zero_from-stop.ensures, zero_inside a.block.now (a.at + 4) c.requires)

pub aligned-requires : goal.aligned-requires
aligned-requires g c = let a = c.args in omega (arith, c.zero_from-stop.ensures, zero_inside a.block.now (a.at + 4) c.requires)

pub returns : goal.returns
unfolding begin_read
returns g c =
    let a = c.args in
    grind (arith, common_steps, zero_inside a.block.now (a.at + 4) c.requires)

pub returns-then-stop-block : goal.returns-then-stop-block
unfolding begin_read
returns-then-stop-block g c = grind (arith, common_steps)
