-- SPDX-License-Identifier: BSD-2-Clause OR GPL-2.0-or-later
-- `ones_of` writes the place of each one behind those before it. Assumes nothing.
use mathlib.Core.Path.{◌≡◌, refl, sym, ◌∙◌}
use mathlib.Core.Bool.{Bool}
use Prim.Native.Nat.{ℕ}
use native.Mathlib.Omega.{arith}
use lib.Dec.{eqb}
use lib.ListN.{replicate}
use borrow.Author.Tests.{eq-eqb, ne_eqb}
use Rattle.laws.specs.facts.Digit.{digit}
use Rattle.laws.specs.answers.Search.{count_below, list_below}
use Rattle.laws.proofs.SearchLaws.{count_yes, count_no, count_le, list_length}
use Rattle.laws.proofs.OverLaws.{over_none, listed_yes, listed_no}
use Rattle.plan.specs.answers.Planner.{ones_of}
use Rattle.plan.proofs.KeepLaws.{one_room}
use Rattle.plan.proofs.planner.ones_of.Goals as goal
use Rattle.plan.proofs.planner.ones_of.Goals.{then-keep-k-eq1, else-keep-k-eq1}

abbrev is_one : ℕ → ℕ → Bool
is_one keep k =
    eqb (digit keep k) 1

pub loop-k-init : goal.loop-k-init
unfolding count_below list_below
loop-k-init c = (refl, sym (over_none (replicate 32 0)))

pub offset_bounds-positions-count : goal.offset_bounds-positions-count
offset_bounds-positions-count c =
    let loop = c.loop-k in
    omega (arith, loop.invariant.0, count_le (is_one c.args.keep) loop.k)

pub bounds-positions-count : goal.bounds-positions-count
unfolding digit
bounds-positions-count c =
    let loop = c.loop-k in
    omega (arith, loop.invariant.0, one_room c.args.keep c.requires loop.k (omega arith) (eq-eqb _ 1 c.if-keep-k-eq1.true))

pub overflow_add-count : goal.overflow_add-count
unfolding digit
overflow_add-count c =
    let loop = c.loop-k in
    omega (arith, loop.invariant.0, count_le (is_one c.args.keep) loop.k)

pub loop-k-preserved : goal.loop-k-preserved
unfolding digit
loop-k-preserved c =
    let loop = c.loop-k in
    let p = is_one c.args.keep in
    let none = replicate {A = ℕ} 32 0 in
    elim c.if-keep-k-eq1.branch [
      | then-keep-k-eq1 w ↦
          let yes = eq-eqb _ 1 w.if-keep-k-eq1.true in (
            omega (arith, loop.invariant.0, count_yes p loop.k yes, w.count-is),
            w.positions-is ∙ listed_yes p loop.k none loop.invariant.0 loop.invariant.1 yes,
          )
      | else-keep-k-eq1 w ↦
          let other = ne_eqb _ 1 w.if-keep-k-eq1.false in (
            omega (arith, loop.invariant.0, count_no p loop.k other, w.count-is),
            w.positions-is ∙ listed_no p loop.k none loop.invariant.0 loop.invariant.1 other,
          )
    ]

pub returns : goal.returns
unfolding ones_of
returns c =
    let loop = c.loop-k in
    let keep = c.args.keep in
    let end : loop.k ≡ 40 = omega arith in
    rw (loop.invariant.0, loop.invariant.1, end, list_length (is_one keep) 40)
