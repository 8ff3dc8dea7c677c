-- SPDX-License-Identifier: BSD-2-Clause OR GPL-2.0-or-later
-- What is told of a board, by what is asked for.
use Rattle.std.specs.Prelude.{ℕ, Option, None, Some}
use Rattle.laws.specs.facts.Told.{Fault}
use Rattle.laws.specs.answers.Fault.{told, or_else, or_number}
use Rattle.slot_table.specs.answers.Table.{entries_fault}
use Rattle.tables.specs.facts.Board.{Board}
use Rattle.rows.specs.answers.Slots.{board_hash}
use Rattle.demands.specs.answers.Answer.{room_fault, board_fault}

-- rules 38 and 39, where a table of so many entries is asked for
abbrev pub table_fault : Option ℕ → ℕ → ℕ
table_fault None bits = 0
table_fault (Some entries) bits = entries_fault bits entries

-- the first of rules 27, 38 and 39 that is broken
abbrev pub rooms_number : (cpus room : ℕ) → Option ℕ → (bits : ℕ) → ℕ
rooms_number cpus room entries bits = or_number (room_fault room cpus) (table_fault entries bits)

abbrev pub written_fault : (cpus room : ℕ) → Option ℕ → (bits : ℕ) → Fault
written_fault cpus room entries bits = or_else (told (room_fault room cpus) 0) (told (table_fault entries bits) 0)

-- what is told of a board
abbrev pub read_fault : Board → ℕ → Option ℕ → Fault
read_fault b room entries = or_else (board_fault b room) (told (table_fault entries (board_hash b).bits) 0)
