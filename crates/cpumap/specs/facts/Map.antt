-- SPDX-License-Identifier: BSD-2-Clause OR GPL-2.0-or-later
-- The map and its records (01: map, below, outside), and their kinds.
use Rattle.std.specs.Prelude.{◌≡◌, ℕ, ◌≤◌}
use Rattle.names.specs.facts.Kind.{Kind, Named}
use Rattle.tables.specs.facts.Tree.{Child, Ancestor}
use Rattle.tables.specs.facts.Binding.{map_word}
use Rattle.tables.specs.facts.Board.{Board, node_name}

-- the map: the lowest child of record 0 named `cpu-map`
pub record Map (b : Board) (m : ℕ) : Type 0 where
  pub child : Child b.nodes 0 m
  pub name : node_name b m ≡ map_word
  pub lowest : (i : ℕ) → Child b.nodes 0 i → node_name b i ≡ map_word → m ≤ i

-- record i is below the map
pub record InMap (b : Board) (i : ℕ) : Type 0 where
  pub root : ℕ
  pub is_map : Map b root
  pub below : Ancestor b.nodes root i

-- record i is outside the map: neither the map nor below it
pub record Outside (b : Board) (i : ℕ) : Type 0 where
  pub root : ℕ
  pub is_map : Map b root
  pub not_map : i ≡ root → ⊥
  pub not_below : Ancestor b.nodes root i → ⊥

-- record i has a topology name of a kind
abbrev pub OfKind : Board → Kind → ℕ → Type 0
OfKind b kind i = (n : ℕ) × Named (node_name b i) kind n

-- a is a cluster above record i
pub record ClusterAbove (b : Board) (i a : ℕ) : Type 0 where
  pub ancestor : Ancestor b.nodes a i
  pub is_cluster : OfKind b Kind.cluster a
