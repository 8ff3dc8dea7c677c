-- SPDX-License-Identifier: BSD-2-Clause OR GPL-2.0-or-later
-- The answer of the reading calls, and what they leave in the lent parts.
use Rattle.std.specs.Prelude.{List, ℕ, length}
use Rattle.tables.specs.facts.Board.{Board}
use Rattle.demands.specs.facts.Told.{BoardAnswer}
use Rattle.demands.specs.answers.Answer.{rows_after}
use Rattle.demands.specs.answers.Slots.{slots_rows, slots_table}
use Rattle.sunderwath.specs.answers.Answer.{answer_size, answer_words, unless_short}

abbrev pub board_words : BoardAnswer → List ℕ
board_words a = answer_words a.number a.place a.second a.count a.hash

-- the rows after the call: unchanged where the answer is too short
abbrev pub rows_behind : List ℕ → Board → List ℕ → List ℕ
rows_behind answer b rows = unless_short answer_size answer rows (rows_after b rows)

-- .. and the rows and the table after the call that fills both
abbrev pub slots_rows_behind : List ℕ → Board → List ℕ → List ℕ → List ℕ
slots_rows_behind answer b rows table = unless_short answer_size answer rows (slots_rows b rows (length table))

abbrev pub slots_table_behind : List ℕ → Board → List ℕ → List ℕ → List ℕ
slots_table_behind answer b rows table = unless_short answer_size answer table (slots_table b rows table)
