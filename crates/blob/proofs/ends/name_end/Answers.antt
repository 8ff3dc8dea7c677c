-- SPDX-License-Identifier: BSD-2-Clause OR GPL-2.0-or-later
use mathlib.Core.Path.{◌≡◌, sym, ◌∙◌, ap}
use Prim.Native.Nat.{ℕ, ◌+◌, ◌*◌, ◌/◌}
use native.Mathlib.Omega.{arith}
use lib.ListN.{get_or}
use lib.Seq.{length-take-le}
use Rattle.tokens.specs.answers.Read.{zero_from}
use Rattle.tokens.proofs.ZeroLaws.{zero_end}
use Rattle.blob.proofs.EndLaws.{Found, found_at_lem}
use Rattle.blob.proofs.ends.name_end.Goals as goal
use Rattle.blob.proofs.ends.name_end.Goals.{After-zero_from-stop}

-- what the search up to the run's end tells
found :
    (c : After-zero_from-stop) →
    let a = c.args in
    Found a.bytes.now c.min-edge.result a.at
found c =
    let a = c.args in
    found_at_lem a.bytes.now c.min-edge.result (omega (arith, c.min-edge.ensures)) a.at (omega (arith, c.min-edge.ensures))

pub returns-then-bytes-at : goal.returns-then-bytes-at
returns-then-bytes-at c = let a = c.args in sym (zero_end a.bytes.now a.at c.if-bytes-at.true)

pub overflow_add-at : goal.overflow_add-at
overflow_add-at c = omega arith

pub overflow_mul-at : goal.overflow_mul-at
overflow_mul-at c = omega arith

pub slice_bounds-zero_from-end : goal.slice_bounds-zero_from-end
slice_bounds-zero_from-end c = sym (length-take-le c.min-edge.result c.args.bytes.now (omega (arith, c.min-edge.ensures)))

pub returns-then-stop-edge : goal.returns-then-stop-edge
returns-then-stop-edge c =
    c.zero_from-stop.ensures
    ∙ (found (goal.at.returns-then-stop-edge c).After-zero_from-stop).0 (omega (arith, c.zero_from-stop.ensures))

pub returns-then-edge-bytes : goal.returns-then-edge-bytes
returns-then-edge-bytes c =
    let a = c.args in
    let edge = c.min-edge.result in
    sym (zero_end a.bytes.now edge (omega arith))
    ∙ (found (goal.at.returns-then-edge-bytes c).After-zero_from-stop).1 (omega (arith, c.zero_from-stop.ensures))

pub returns : goal.returns
returns c =
    let a = c.args in
    let edge = c.min-edge.result in
    let run : edge ≡ 512 * (a.at / 512 + 1) = omega (arith, c.min-edge.ensures) in
    let k : edge / 512 ≡ a.at / 512 + 1 = omega arith in
    c.wide.ensures
    ∙ ap (λ (j : ℕ). get_or a.ends.now j 0) k
    ∙ c.requires.ends (a.at / 512 + 1) (omega arith) (omega arith)
    ∙ ap (zero_from a.bytes.now) (sym run)
    ∙ (found (goal.at.returns c).After-zero_from-stop).1 (omega (arith, c.zero_from-stop.ensures))
