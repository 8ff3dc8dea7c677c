-- SPDX-License-Identifier: BSD-2-Clause OR GPL-2.0-or-later
-- `sunderwath_plan_check` writes what the library answers. Assumes nothing.
use native.Mathlib.Omega.{arith}
use Rattle.plan.proofs.CheckMeans.{plan_demands}
use Rattle.plan.proofs.PlaceLaws.{check_place_le}
use Rattle.sunderwath.proofs.CallLaws.{check_in_word}
use Rattle.sunderwath.proofs.plans.sunderwath_plan_check.Goals as goal

pub returns-then-answer-lt-CHECK_WORDS-clause-demands : goal.returns-then-answer-lt-CHECK_WORDS-clause-demands
returns-then-answer-lt-CHECK_WORDS-clause-demands c = plan_demands c.args.list.now c.args.positions.now

pub tell_check-told-requires : goal.tell_check-told-requires
tell_check-told-requires c =
    check_in_word c.check_plan.result _ c.check_plan.ensures.answer (omega (arith, check_place_le c.args.list.now c.args.positions.now))
