-- SPDX-License-Identifier: BSD-2-Clause OR GPL-2.0-or-later
-- What the reader with a table of slots answers, and what it leaves in the row buffer and in the table.
use Rattle.std.specs.Prelude.{cond, List, ℕ, eqb, length}
use Rattle.laws.specs.facts.Told.{Fault}
use Rattle.laws.specs.answers.Fault.{told, or_else}
use Rattle.slot_table.specs.answers.Table.{entries_fault, filled}
use Rattle.tables.specs.facts.Board.{Board}
use Rattle.cpus.specs.answers.Check.{cpu_count}
use Rattle.rows.specs.answers.Slots.{board_hash}
use Rattle.rows.specs.answers.Write.{source_of}
use Rattle.demands.specs.facts.Told.{BoardAnswer}
use Rattle.demands.specs.facts.Reading.{rows_in}
use Rattle.demands.specs.answers.Answer.{board_fault, answer_by, rows_by}

-- the first of rules 1 to 27 and 36 to 39 that is broken
unfoldable pub slots_fault : Board → ℕ → ℕ → Fault
slots_fault b room entries = or_else (board_fault b room) (told (entries_fault (board_hash b).bits entries) 0)

unfoldable pub slots_answer : Board → ℕ → ℕ → BoardAnswer
slots_answer b room entries = answer_by (slots_fault b room entries) (cpu_count b) (board_hash b)

-- the row buffer after the call with a table of so many entries
unfoldable pub slots_rows : Board → List ℕ → ℕ → List ℕ
slots_rows b before entries = rows_by (slots_fault b (length before) entries) (source_of b) before

-- the table after the call: that of the rows, unless a fault is told
unfoldable pub slots_table : Board → List ℕ → List ℕ → List ℕ
slots_table b rows before =
    let answer = slots_answer b (length rows) (length before) in
    cond (eqb answer.number 0) (filled (rows_in answer (slots_rows b rows (length before))) answer.hash.bits before) before
