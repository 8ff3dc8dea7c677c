-- SPDX-License-Identifier: BSD-2-Clause OR GPL-2.0-or-later
-- `first_unmapped` meets its contract: each index before k is marked. Assumes nothing.
use mathlib.Core.Path.{◌≡◌, refl, sym, ap, ◌∙◌}
use mathlib.Core.Bool.{Bool, cond}
use mathlib.Core.List.{List}
use Prim.Native.Nat.{ℕ}
use native.Mathlib.Omega.{arith}
use Rattle.laws.specs.answers.Fault.{first_fault}
use Rattle.laws.specs.answers.Listed.{fault_of_member}
use Rattle.laws.proofs.FaultLaws.{clear_more, at_fault, at_end}
use Rattle.leaves.specs.steps.Pass.{is_marked, unmarked_fault}
use Rattle.leaves.proofs.scan.first_unmapped.Goals as goal

-- rule 26 of cpu k, by whether it is marked
unmarked : (marks : List Bool) (k : ℕ) {b : Bool} → b ≡ is_marked marks k → cond b 0 26 ≡ unmarked_fault marks k
unfolding unmarked_fault
unmarked marks k e =
    ap (λ (b : Bool). cond b 0 26) e

pub loop-k-init : goal.loop-k-init
unfolding first_fault
loop-k-init c = refl

pub returns-then-not-is_marked : goal.returns-then-not-is_marked
returns-then-not-is_marked c =
    let loop = c.loop-k in
    let a = c.args in
    let fault = unmarked a.marks.now loop.k (sym c.if-not-is_marked.true ∙ c.is_marked.ensures) in
    rw (c.at.ensures, c.from.ensures) (ap (fault_of_member a.records.now) (at_fault _ _ _ (omega arith) loop.invariant fault (λ z. omega arith)))

pub loop-k-preserved : goal.loop-k-preserved
loop-k-preserved c =
    let loop = c.loop-k in
    let a = c.args in
    let fault = unmarked a.marks.now loop.k (sym c.if-not-is_marked.false ∙ c.is_marked.ensures) in
    clear_more _ _ loop.invariant fault refl

pub returns : goal.returns
returns c = ap (fault_of_member c.args.records.now) (at_end _ _ _ (omega arith) c.loop-k.invariant)
