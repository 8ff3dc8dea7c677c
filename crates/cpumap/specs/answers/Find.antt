-- SPDX-License-Identifier: BSD-2-Clause OR GPL-2.0-or-later
-- Finding the map: rules 15 and 16.
use Rattle.std.specs.Prelude.{Bool, false, cond, List, ℕ, ltb, eqb}
use Rattle.laws.specs.facts.Told.{Fault}
use Rattle.laws.specs.answers.Search.{lowest}
use Rattle.laws.specs.answers.Fault.{told, or_else, first_fault}
use Rattle.tables.specs.facts.Board.{node_count, name_offset, name_length}
use Rattle.tables.specs.facts.Binding.{map_word}
use Rattle.tables.specs.answers.Range.{range_is}
use Rattle.tables.specs.answers.Tree.{is_child}
use Rattle.cpumap.specs.facts.Told.{MapScan}

-- whether record i is named `cpu-map`
unfoldable pub is_map_name : List ℕ → List ℕ → ℕ → Bool
is_map_name nodes pool i = range_is pool (name_offset nodes i) (name_length nodes i) map_word

unfoldable pub is_map : List ℕ → List ℕ → ℕ → Bool
is_map nodes pool i = cond (is_child nodes 0 i) (is_map_name nodes pool i) false

-- the map's record, or the number of records where there is none
unfoldable pub map_of : List ℕ → List ℕ → ℕ
map_of nodes pool = lowest (is_map nodes pool) (node_count nodes)

-- rule 15
abbrev pub no_map_fault : List ℕ → List ℕ → ℕ
no_map_fault nodes pool = cond (ltb (map_of nodes pool) (node_count nodes)) 0 15

-- rule 16 at record i
unfoldable pub second_map_fault : List ℕ → List ℕ → ℕ → ℕ
second_map_fault nodes pool i = cond (is_map_name nodes pool i) (cond (eqb i (map_of nodes pool)) 0 16) 0

unfoldable pub map_fault : List ℕ → List ℕ → Fault
map_fault nodes pool = or_else (told (no_map_fault nodes pool) 0) (first_fault (second_map_fault nodes pool) (node_count nodes))

-- the first of rules 15 and 16 that is broken, or the map's record
unfoldable pub map_scan : List ℕ → List ℕ → MapScan
map_scan nodes pool =
    let f = map_fault nodes pool in
    record { fault = f; map = cond (eqb f.number 0) (map_of nodes pool) 0 }
