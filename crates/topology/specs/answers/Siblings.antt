-- SPDX-License-Identifier: BSD-2-Clause OR GPL-2.0-or-later
-- Rule 21 at one record: its number among its siblings.
use Rattle.std.specs.Prelude.{Bool, false, cond, List, ℕ, ltb}
use Rattle.laws.specs.answers.Search.{any_below, count_below}
use Rattle.tables.specs.facts.Board.{node_count}
use Rattle.tables.specs.answers.Tree.{is_child}
use Rattle.cpumap.specs.answers.Path.{topology_name}
use Rattle.cpumap.specs.answers.Number.{is_numbered}

-- whether record j is a child of p with the number n
abbrev pub holds_number : List ℕ → List ℕ → ℕ → ℕ → ℕ → Bool
holds_number nodes pool p n j = cond (is_child nodes p j) (is_numbered n (topology_name nodes pool j)) false

-- how many children record p has
abbrev pub child_count : List ℕ → ℕ → ℕ
child_count nodes p = count_below (is_child nodes p) (node_count nodes)

-- whether record i, a child of p, may have the number n: no earlier child has it, and p has more than n children
unfoldable pub is_free : List ℕ → List ℕ → ℕ → ℕ → ℕ → Bool
is_free nodes pool p i n = cond (any_below (holds_number nodes pool p n) i) false (ltb n (child_count nodes p))

-- rule 21 of record i, a child of p with the number n
abbrev pub number_fault : List ℕ → List ℕ → ℕ → ℕ → ℕ → ℕ
number_fault nodes pool p i n = cond (is_free nodes pool p i n) 0 21
