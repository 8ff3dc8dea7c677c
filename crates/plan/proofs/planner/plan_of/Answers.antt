-- SPDX-License-Identifier: BSD-2-Clause OR GPL-2.0-or-later
-- `plan_of` refuses a list with a fault, and thins the mask of any other. Assumes nothing.
use Rattle.std.specs.Prelude.{Ok, Err}
use Rattle.std.proofs.lemmas.Result.{err_from_is_err_and}
use mathlib.Core.Path.{refl}
use borrow.Author.Tests.{eq-eqb, ne_eqb}
use Rattle.laws.proofs.ToldLaws.{rule_counts}
use Rattle.affinity.specs.answers.Told.{mask_told}
use Rattle.affinity.proofs.ListLaws.{fault_affine}
use Rattle.plan.specs.answers.Planner.{plan_of, plan_answer}
use Rattle.plan.specs.answers.Told.{plan_told}
use Rattle.plan.proofs.ListLaws.{list_refused, list_accepted}
use Rattle.plan.proofs.ThinLaws.{kept_affine}
use Rattle.plan.proofs.PlannerMeans.{make_meets}
use Rattle.plan.proofs.planner.plan_of.Goals as goal

pub returns-in_err-mask : goal.returns-in_err-mask
unfolding plan_answer
returns-in_err-mask c =
    let r = c.in_err-mask.field-0.0 in
    let list = c.in_err-mask.ensures in
    let p = err_from_is_err_and c.from_residual.result c.from_residual.ensures.1 in
    let refused = list_refused c.args.list.now (mask_told (Err r)) list.answer (rule_counts r.rule) in
    let m = make_meets c.args.list.now {r = plan_told (Err r)} (rw (ne_eqb _ 0 refused.0, refused.1, refused.2)) in
    rw (p.1, p.2) (record { answer = m.0; demands = m.1 })

pub thinned-requires : goal.thinned-requires
thinned-requires c = (list_accepted c.args.list.now (mask_told (Ok c.in_ok-mask.mask)) c.in_ok-mask.ensures.answer refl).1

pub ones_of-requires : goal.ones_of-requires
ones_of-requires c =
    let list = c.args.list.now in
    let accepted = list_accepted list (mask_told (Ok c.in_ok-mask.mask)) c.in_ok-mask.ensures.answer refl in
    rw c.thinned.ensures (kept_affine list (fault_affine list accepted.0))

pub returns : goal.returns
unfolding plan_answer plan_of
returns c =
    let list = c.args.list.now in
    let accepted = list_accepted list (mask_told (Ok c.in_ok-mask.mask)) c.in_ok-mask.ensures.answer refl in
    let m = make_meets list {r = plan_told (Ok c.ones_of.result)} (rw (eq-eqb _ 0 accepted.0, ← c.thinned.ensures) c.ones_of.ensures) in
    record { answer = m.0; demands = m.1 }
