-- SPDX-License-Identifier: BSD-2-Clause OR GPL-2.0-or-later
-- `check_plan` tells what is wrong with the list, and then with the plan. Assumes nothing.
use Rattle.std.proofs.lemmas.Result.{err_from_is_err_and}
use Rattle.plan.proofs.CheckMeans.{check_refused, check_accepted, check_meets}
use Rattle.plan.proofs.check.check_plan.Goals as goal

pub returns-in_err-list_mask : goal.returns-in_err-list_mask
returns-in_err-list_mask c =
    let a = c.args in
    let list = c.in_err-list_mask.ensures in
    let p = err_from_is_err_and c.from_residual.result c.from_residual.ensures.1 in
    let m = check_meets _ _ (check_refused a.list.now a.positions.now c.in_err-list_mask.field-0.0 list.answer) in
    rw (p.1, p.2) (record { answer = m.0; demands = m.1 })

pub returns-in_err-plan_number : goal.returns-in_err-plan_number
returns-in_err-plan_number c =
    let a = c.args in
    let exit = c.from_residual-in_err-plan_number in
    let p = err_from_is_err_and exit.result exit.ensures.1 in
    let m = check_meets _ _ (check_accepted a.list.now a.positions.now _ c.in_ok-list_mask.ensures.answer c.in_err-plan_number.ensures) in
    rw (p.1, p.2) (record { answer = m.0; demands = m.1 })

pub returns : goal.returns
returns c =
    let a = c.args in
    let m = check_meets _ _ (check_accepted a.list.now a.positions.now _ c.in_ok-list_mask.ensures.answer c.in_ok-plan_number.ensures) in
    record { answer = m.0; demands = m.1 }
