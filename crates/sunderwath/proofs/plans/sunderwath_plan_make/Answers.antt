-- SPDX-License-Identifier: BSD-2-Clause OR GPL-2.0-or-later
-- `sunderwath_plan_make` writes what the library answers: three words, and behind them the positions. Assumes nothing.
use mathlib.Core.Path.{ap, refl, ◌∙◌}
use mathlib.Core.List.{[], ◌∷◌, ◌++◌}
use Prim.Native.Nat.{◌≤◌}
use native.Mathlib.Omega.{arith}
use lib.ListN.{length, replicate, drop, length-drop}
use lib.Seq.{length-take-le, drop-drop}
use borrow.Author.Tests.{le-ltb}
use Rattle.laws.specs.facts.Told.{Fault}
use Rattle.laws.proofs.PartLaws.{block_more}
use Rattle.plan.specs.facts.Told.{Plan}
use Rattle.plan.proofs.PlaceLaws.{make_place_le}
use Rattle.plan.proofs.PlannerMeans.{make_demands}
use Rattle.sunderwath.proofs.CallLaws.{place_in_word}
use Rattle.sunderwath.proofs.plans.sunderwath_plan_make.Goals as goal

pub returns-then-answer-lt-PLAN_WORDS-clause-demands : goal.returns-then-answer-lt-PLAN_WORDS-clause-demands
returns-then-answer-lt-PLAN_WORDS-clause-demands c = make_demands c.args.list.now

pub tell_broken-requires : goal.tell_broken-requires
tell_broken-requires c = place_in_word (ap (λ (p : Plan). p.place) c.in-Err.ensures.answer) (make_place_le c.args.list.now)

pub returns-in-Ok-clause-answer : goal.returns-in-Ok-clause-answer
returns-in-Ok-clause-answer c =
    let e = c.in-Ok.ensures in
    let plan = c.in-Ok.plan in
    let enough = le-ltb _ _ c.if-answer-lt-PLAN_WORDS.false in
    let whole =
    block_more 3 (length plan.positions) (0 ∷ 0 ∷ plan.count ∷ []) plan.positions c.args.answer.now c.put_front.new.answer
    c.put_front-in-Ok.new.answer refl c.put_front.ensures c.put_front-in-Ok.ensures in
    rw (← e.answer, enough) (rw e.demands.size at whole)

pub returns-in-Err-clause-answer : goal.returns-in-Err-clause-answer
returns-in-Err-clause-answer c =
    let enough = le-ltb _ _ c.if-answer-lt-PLAN_WORDS.false in
    let now = c.args.answer.now in
    let room : 32 ≤ length (drop 3 now) = simp length-drop (omega arith) in
    let zeroed = rw (c.put_refused-number.ensures.answer, length-take-le 32 (drop 3 now) room) at (c.fill.ensures.after (λ y h. h)) in
    let told = c.tell_broken.result in
    let behind = ap (λ rest. told.number ∷ told.place ∷ 0 ∷ (replicate 32 0 ++ rest)) (drop-drop 32 3 now) in
    let front = ap (λ (a : Fault). a.number ∷ a.place ∷ 0 ∷ (replicate 32 0 ++ drop 35 now)) c.tell_broken.ensures in
    rw (← c.in-Err.ensures.answer, enough) (rw (zeroed, c.put_refused-number.ensures.answer) (behind ∙ front))
