-- SPDX-License-Identifier: BSD-2-Clause OR GPL-2.0-or-later
-- `plan_slot` refuses what a check refuses, and an MPIDR that is not listed. Assumes nothing.
use Rattle.std.specs.Prelude.{Ok, Err}
use Rattle.std.proofs.lemmas.Result.{err_from_is_err_and}
use mathlib.Core.Path.{sym, ap, ◌∙◌}
use Rattle.laws.specs.facts.Told.{Fault}
use Rattle.laws.proofs.ToldLaws.{rule_shown}
use Rattle.affinity.specs.answers.Told.{slot_told}
use Rattle.plan.specs.answers.Slot.{plan_slot}
use Rattle.plan.proofs.CheckMeans.{plan_sound}
use Rattle.plan.proofs.SlotMeans.{slot_meets}
use Rattle.plan.proofs.slot.plan_slot.Goals as goal

pub returns-in_err-check_plan : goal.returns-in_err-check_plan
unfolding plan_slot
returns-in_err-check_plan c =
    let a = c.args in
    let r = c.in_err-check_plan.field-0.0 in
    let fault = c.in_err-check_plan.ensures in
    let p = err_from_is_err_and c.from_residual.result c.from_residual.ensures.1 in
    let m = slot_meets a.list.now a.positions.now a.mpidr {r = slot_told (Err r)} (rw (← fault.answer, rule_shown r.rule)) in
    rw (p.1, p.2) (record { answer = m.0; demands = m.1 })

pub returns-then-not-is_among : goal.returns-then-not-is_among
unfolding plan_slot
returns-then-not-is_among c =
    let a = c.args in
    let unlisted = sym c.is_among.ensures ∙ c.if-not-is_among.true in
    let m = slot_meets a.list.now a.positions.now a.mpidr {r = record { number = 30; place = 0; slot = 0 }}
    (rw (← c.in_ok-check_plan.ensures.answer, unlisted)) in
    rw c.broken_at.ensures (record { answer = m.0; demands = m.1 })

pub slot_under-requires : goal.slot_under-requires
slot_under-requires c =
    let a = c.args in
    (plan_sound a.list.now a.positions.now (sym (ap (λ (f : Fault). f.number) c.in_ok-check_plan.ensures.answer))).sound

pub returns : goal.returns
unfolding plan_slot
returns c =
    let a = c.args in
    let listed = sym c.is_among.ensures ∙ c.if-not-is_among.false in
    let m = slot_meets a.list.now a.positions.now a.mpidr {r = slot_told (Ok c.slot_under.result)}
    (rw (← c.in_ok-check_plan.ensures.answer, listed, c.slot_under.ensures)) in
    record { answer = m.0; demands = m.1 }
