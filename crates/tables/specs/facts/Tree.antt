-- SPDX-License-Identifier: BSD-2-Clause OR GPL-2.0-or-later
-- Parents and ancestors of the records of a node table.
use Rattle.std.specs.Prelude.{◌≡◌, List, ℕ, ◌<◌}
use Rattle.tables.specs.facts.Board.{node_count, parent_word}

-- i is a child of p, its parent: the record that i's parent word names, an earlier one
pub record Child (nodes : List ℕ) (p i : ℕ) : Type 0 where
  pub inside : i < node_count nodes
  pub word : parent_word nodes i ≡ p
  pub earlier : p < i

-- a is an ancestor of i, which is below a: its parent, or an ancestor of its parent
pub data Ancestor (nodes : List ℕ) (a : ℕ) : ℕ → Type 0 where
  parent : {i : ℕ} → Child nodes a i → Ancestor nodes a i
  above : {p i : ℕ} → Child nodes p i → Ancestor nodes a p → Ancestor nodes a i
