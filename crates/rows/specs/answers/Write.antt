-- SPDX-License-Identifier: BSD-2-Clause OR GPL-2.0-or-later
-- All rows, and the buffer that they are written into.
use Rattle.std.specs.Prelude.{List, [], ◌++◌, cond, ℕ, zero, suc, ◌*◌, get_or, length, drop, ltb}
use Rattle.layout.specs.declared.Row.{Row}
use Rattle.layout.specs.answers.Words.{row_words}
use Rattle.layout.specs.facts.Row.{row_size}
use Rattle.tables.specs.declared.Tables.{Tables}
use Rattle.tables.specs.facts.Board.{Board}
use Rattle.cpus.specs.answers.Check.{cpu_list, reg_list}
use Rattle.leaves.specs.answers.Scan.{leaves_of, named_of}
use Rattle.rows.specs.declared.Lists.{Lists}
use Rattle.rows.specs.declared.NamedCpu.{NamedCpu}
use Rattle.rows.specs.declared.BoardSlots.{BoardSlots}
use Rattle.rows.specs.answers.Leaf.{row_of}
use Rattle.rows.specs.answers.Slots.{slot_by, slots_of}

-- what the rows are made of: the tables, the cpu records and their `reg`s, the leaves and for each the index of the cpu record that it names,
-- and how slots are made
pub record Source : Type 0 where
  pub nodes : List ℕ
  pub pool : List ℕ
  pub cpus : List ℕ
  pub regs : List ℕ
  pub leaves : List ℕ
  pub named : List ℕ
  pub slots : BoardSlots

abbrev pub source : (nodes pool cpus regs leaves named : List ℕ) → BoardSlots → Source
source nodes pool cpus regs leaves named slots =
    record { nodes = nodes; pool = pool; cpus = cpus; regs = regs; leaves = leaves; named = named; slots = slots }

abbrev pub source_in : Tables → Lists → BoardSlots → Source
source_in t lists slots =
    source t.nodes.now t.pool.now lists.cpus.now lists.regs.now lists.leaves.now lists.named.now slots

-- the cpu at an index of the cpu records and their `reg`s, with its slot
abbrev pub named_cpu : List ℕ → List ℕ → ℕ → BoardSlots → NamedCpu
named_cpu cpus regs index slots =
    let m = get_or regs index 0 in
    record { cpu = get_or cpus index 0; reg = m; slot = slot_by slots m }

-- row number k
unfoldable pub row_number : Source → ℕ → Row
row_number s k = row_of s.nodes s.pool (get_or s.leaves k 0) (named_cpu s.cpus s.regs (get_or s.named k 0) s.slots)

-- the words of the first n rows
unfoldable pub rows_below : Source → ℕ → List ℕ
rows_below s zero = []
rows_below s (suc n) = rows_below s n ++ row_words (row_number s n)

-- the buffer after the writing: the rows, and then what it held; as it was where it has no room for all rows
unfoldable pub written : Source → List ℕ → List ℕ
written s before =
    let n = length s.leaves in
    cond (ltb (length before) (row_size * n)) before (rows_below s n ++ drop (row_size * n) before)

-- what the rows of an accepted board are made of
abbrev pub source_of : Board → Source
source_of b = source b.nodes b.pool (cpu_list b) (reg_list b) (leaves_of b) (named_of b) (slots_of b)
