-- SPDX-License-Identifier: BSD-2-Clause OR GPL-2.0-or-later
-- What is told of the planner's answer, in numbers: a plan, whose positions are the first `count`, or the number and the place of what is wrong.
use Rattle.std.specs.Prelude.{ℕ, List}

pub record Plan : Type 0 where
  pub number : ℕ
  pub place : ℕ
  pub count : ℕ
  pub positions : List ℕ
