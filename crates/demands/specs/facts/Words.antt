-- SPDX-License-Identifier: BSD-2-Clause OR GPL-2.0-or-later
-- An answer whose numbers are words of 32 bits, as the calls for C tell them.
use Rattle.std.specs.Prelude.{◌^◌, ◌<◌}
use Rattle.demands.specs.facts.Told.{BoardAnswer}

pub record Words (a : BoardAnswer) : Type 0 where
  pub place : a.place < 2 ^ 32
  pub second : a.second < 2 ^ 32
  pub count : a.count < 2 ^ 32
