-- SPDX-License-Identifier: BSD-2-Clause OR GPL-2.0-or-later
-- What the check of rules 1 to 8 answers.
use Rattle.std.specs.Prelude.{cond, ℕ, ◌*◌, ◌%◌, eqb, ltb, length}
use Rattle.laws.specs.facts.Told.{Fault}
use Rattle.laws.specs.facts.Limits.{max_nodes, max_properties, max_pool}
use Rattle.laws.specs.answers.Fault.{told, or_else, first_fault}
use Rattle.tables.specs.facts.Board.{Board, arm32, arm64, riscv, node_count, prop_count}
use Rattle.records.specs.answers.Check.{node_fault, property_fault}

-- rules 1 to 4, each its number or 0
abbrev pub width_fault : ℕ → ℕ
width_fault width = cond (eqb width arm32) 0 (cond (eqb width arm64) 0 (cond (eqb width riscv) 0 1))

abbrev pub node_words_fault : ℕ → ℕ
node_words_fault words = cond (eqb (words % 3) 0) (cond (eqb words 0) 2 (cond (ltb (3 * max_nodes) words) 2 0)) 2

abbrev pub prop_words_fault : ℕ → ℕ
prop_words_fault words = cond (eqb (words % 5) 0) (cond (ltb (5 * max_properties) words) 3 0) 3

abbrev pub pool_fault : ℕ → ℕ
pool_fault bytes = cond (ltb max_pool bytes) 4 0

-- the first of rules 1 to 8 that is broken
unfoldable pub table_fault : Board → Fault
table_fault b =
    or_else (told (width_fault b.width) 0)
    (or_else (told (node_words_fault (length b.nodes)) 0)
    (or_else (told (prop_words_fault (length b.props)) 0)
    (or_else (told (pool_fault (length b.pool)) 0)
    (or_else
    (first_fault (node_fault b.nodes (length b.pool)) (node_count b.nodes))
    (first_fault (property_fault (node_count b.nodes) b.props b.pool) (prop_count b.props))))))
