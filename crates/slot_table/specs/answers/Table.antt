-- SPDX-License-Identifier: BSD-2-Clause OR GPL-2.0-or-later
-- Which of rules 38 and 39 is told, and the words of a table.
use Rattle.std.specs.Prelude.{cond, List, ◌++◌, ℕ, zero, suc, ◌/◌, ◌%◌, ◌^◌, ltb, eqb, length, drop, set, replicate}
use Rattle.laws.specs.facts.Limits.{max_table_bits}
use Rattle.layout.specs.facts.Row.{row_size, gap, slot_at}

-- rules 38 and 39, for a hash of so many bits and a table of so many entries
abbrev pub entries_fault : ℕ → ℕ → ℕ
entries_fault bits entries = cond (ltb max_table_bits bits) 38 (cond (ltb entries (2 ^ bits)) 39 0)

-- GAP in each of the first entries, and what was behind them
abbrev pub blank : ℕ → List ℕ → List ℕ
blank size before = replicate size gap ++ drop size before

-- the rows below n entered at their slots, where these are below the size; a word holds the low 32 bits of a row's number
unfoldable pub entered_below : (ℕ → ℕ) → ℕ → ℕ → List ℕ → List ℕ
entered_below slot size zero table = table
entered_below slot size (suc n) table =
    let before = entered_below slot size n table in
    cond (ltb (slot n) size) (set before (slot n) (n % 2 ^ 32)) before

-- the table of rows that stand one behind the other; as it was where a rule is broken
unfoldable pub filled : List ℕ → ℕ → List ℕ → List ℕ
filled rows bits before =
    let size = 2 ^ bits in
    cond (eqb (entries_fault bits (length before)) 0) (entered_below (slot_at rows) size (length rows / row_size) (blank size before)) before
