-- SPDX-License-Identifier: BSD-2-Clause OR GPL-2.0-or-later
-- What an answer about a board tells, in numbers.
use Rattle.std.specs.Prelude.{Result, Ok, Err}
use Rattle.laws.specs.declared.rules.Refusal.{Refusal}
use Rattle.laws.specs.facts.Limits.{no_property}
use Rattle.laws.specs.answers.Told.{told_of}
use Rattle.demands.specs.declared.BoardRows.{BoardRows}
use Rattle.demands.specs.facts.Told.{BoardAnswer}
use Rattle.demands.specs.answers.Answer.{refused_with}

abbrev pub board_told : Result BoardRows Refusal → BoardAnswer
board_told (Ok found) = record { number = 0; place = 0; second = no_property; count = found.count; hash = found.hash }
board_told (Err r) = refused_with (told_of r)
