-- SPDX-License-Identifier: BSD-2-Clause OR GPL-2.0-or-later
-- The words of a row by name, and rows one behind the other in a table (01, "The row").
use Rattle.std.specs.Prelude.{List, ℕ, ◌+◌, ◌*◌, get_or, take, drop}

-- the number of words of a row
abbrev pub row_size : ℕ
row_size = 12

-- GAP: what a row holds where the map states nothing
abbrev pub gap : ℕ
gap = 0xFFFFFFFF

-- the words by name
abbrev pub row_leaf : List ℕ → ℕ
row_leaf row = get_or row 0 0

abbrev pub row_cpu : List ℕ → ℕ
row_cpu row = get_or row 1 0

abbrev pub row_upper : List ℕ → ℕ
row_upper row = get_or row 2 0

abbrev pub row_lower : List ℕ → ℕ
row_lower row = get_or row 3 0

abbrev pub row_socket : List ℕ → ℕ
row_socket row = get_or row 4 0

-- the cluster with d clusters above it
abbrev pub row_cluster : List ℕ → ℕ → ℕ
row_cluster row d = get_or row (5 + d) 0

abbrev pub row_core : List ℕ → ℕ
row_core row = get_or row 9 0

abbrev pub row_thread : List ℕ → ℕ
row_thread row = get_or row 10 0

abbrev pub row_slot : List ℕ → ℕ
row_slot row = get_or row 11 0

-- row number k of a table, and its slot
abbrev pub row_at : List ℕ → ℕ → List ℕ
row_at rows k = take row_size (drop (row_size * k) rows)

abbrev pub slot_at : List ℕ → ℕ → ℕ
slot_at rows k = row_slot (row_at rows k)
