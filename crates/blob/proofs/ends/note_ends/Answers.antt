-- SPDX-License-Identifier: BSD-2-Clause OR GPL-2.0-or-later
use mathlib.Core.Path.{◌≡◌, ◌∙◌, ap}
use Prim.Native.Nat.{◌-◌, ◌*◌}
use native.Mathlib.Omega.{arith}
use Rattle.tokens.specs.answers.Read.{zero_from}
use Rattle.tokens.proofs.ZeroLaws.{zero_inside}
use Rattle.blob.proofs.EndLaws.{ends_more}
use Rattle.blob.proofs.ends.note_ends.Goals as goal

pub overflow_cast-ends : goal.overflow_cast-ends
overflow_cast-ends c =
    let b = c.args.bytes.now in
    omega (arith, c.name_end-end.ensures, zero_inside b ((c.loop-k.k - 1) * 512) (omega arith))

pub loop-k-preserved : goal.loop-k-preserved
loop-k-preserved c =
    let a = c.args in
    let k = c.loop-k.k - 1 in
    let run : k * 512 ≡ 512 * k = omega arith in
    let here = c.name_end-end.ensures ∙ ap (zero_from a.bytes.now) run in
    ends_more a.bytes.now c.loop-k.ends k c.name_end-end.result (omega arith) (λ j le lt. c.loop-k.invariant j (omega arith) lt) here
