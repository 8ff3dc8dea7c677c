-- SPDX-License-Identifier: BSD-2-Clause OR GPL-2.0-or-later
-- What the reader answers, and what it leaves in the row buffer.
use Rattle.std.specs.Prelude.{cond, List, ℕ, ◌*◌, ltb, eqb, length}
use Rattle.laws.specs.facts.Limits.{no_property}
use Rattle.laws.specs.facts.Told.{Fault}
use Rattle.laws.specs.answers.Fault.{told, or_else}
use Rattle.layout.specs.facts.Row.{row_size}
use Rattle.affinity.specs.facts.List.{no_hash}
use Rattle.affinity.specs.declared.Hash.{Hash}
use Rattle.tables.specs.facts.Board.{Board}
use Rattle.cpus.specs.answers.Check.{cpu_count}
use Rattle.rows.specs.answers.Slots.{board_hash}
use Rattle.rows.specs.answers.Write.{Source, written, source_of}
use Rattle.demands.specs.facts.Told.{BoardAnswer}
use Rattle.demands.specs.answers.Survey.{survey_fault}

-- rule 27
abbrev pub room_fault : ℕ → ℕ → ℕ
room_fault room cpus = cond (ltb room (row_size * cpus)) 27 0

-- the first of rules 1 to 27, 36 and 37 that is broken
unfoldable pub board_fault : Board → ℕ → Fault
board_fault b room = or_else (survey_fault b) (told (room_fault room (cpu_count b)) 0)

-- a refusal: every other result is 0
abbrev pub refused_with : Fault → BoardAnswer
refused_with f = record { number = f.number; place = f.place; second = f.second; count = 0; hash = no_hash }

-- what is answered where a fault is told, or where none is: how many cpu records there are, and the board's hash
abbrev pub answer_by : Fault → ℕ → Hash → BoardAnswer
answer_by f count hash =
    cond (eqb f.number 0) (record { number = 0; place = 0; second = no_property; count = count; hash = hash }) (refused_with f)

-- the row buffer afterwards: with the rows where no fault is told
abbrev pub rows_by : Fault → Source → List ℕ → List ℕ
rows_by f s before = cond (eqb f.number 0) (written s before) before

unfoldable pub answer_of : Board → ℕ → BoardAnswer
answer_of b room = answer_by (board_fault b room) (cpu_count b) (board_hash b)

-- the row buffer after the call
unfoldable pub rows_after : Board → List ℕ → List ℕ
rows_after b before = rows_by (board_fault b (length before)) (source_of b) before
