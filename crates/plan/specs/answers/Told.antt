-- SPDX-License-Identifier: BSD-2-Clause OR GPL-2.0-or-later
-- What the planner's answer tells, in numbers; in a refusal every other result is 0.
use Rattle.std.specs.Prelude.{Result, Ok, Err, replicate}
use Rattle.laws.specs.declared.rules.Broken.{Broken}
use Rattle.laws.specs.facts.Told.{number_of}
use Rattle.plan.specs.declared.Plan.{Plan as Made}
use Rattle.plan.specs.facts.Told.{Plan}

abbrev pub plan_told : Result Made Broken → Plan
plan_told (Ok plan) = record { number = 0; place = 0; count = plan.count; positions = plan.positions }
plan_told (Err r) = record { number = number_of r.rule; place = r.place; count = 0; positions = replicate 32 0 }
