-- SPDX-License-Identifier: BSD-2-Clause OR GPL-2.0-or-later
-- Rules 18 to 23 as facts: each constructor is a way to break a rule of that number at that place.
use Rattle.std.specs.Prelude.{◌≡◌, ◌⊎◌, List, ℕ, ◌<◌, ◌≤◌, length}
use Rattle.laws.specs.facts.Limits.{max_clusters_above}
use Rattle.laws.specs.facts.Listing.{Listing}
use Rattle.names.specs.facts.Kind.{Kind, Named}
use Rattle.tables.specs.facts.Board.{Board, node_count, node_name}
use Rattle.tables.specs.facts.Tree.{Child}
use Rattle.cpumap.specs.facts.Map.{Map, InMap, Outside, OfKind, ClusterAbove}

-- record i has no children
abbrev pub Childless : Board → ℕ → Type 0
Childless b i = (j : ℕ) → Child b.nodes i j → ⊥

-- f is the first child of p
pub record FirstChild (b : Board) (p f : ℕ) : Type 0 where
  pub child : Child b.nodes p f
  pub lowest : (j : ℕ) → Child b.nodes p j → f ≤ j

-- the kinds allowed under a record (000, sections 2 and 3)
pub data Allowed (b : Board) (p : ℕ) : Kind → Type 0 where
  map_socket : Map b p → Allowed b p Kind.socket
  map_cluster : Map b p → Allowed b p Kind.cluster
  socket_cluster : OfKind b Kind.socket p → Allowed b p Kind.cluster
  cluster_cluster : OfKind b Kind.cluster p → Allowed b p Kind.cluster
  cluster_core : OfKind b Kind.cluster p → Allowed b p Kind.core
  core_thread : OfKind b Kind.core p → Allowed b p Kind.thread

pub data TopologyRule (b : Board) : ℕ → ℕ → Type 0 where
  topology_outside_map : (i : ℕ) (kind : Kind) → 0 < i → i < node_count b.nodes → Outside b i → OfKind b kind i → TopologyRule b 18 i
  cpu_map_name : (i : ℕ) → InMap b i → ((kind : Kind) → OfKind b kind i → ⊥) → TopologyRule b 19 i
  cpu_map_kind : (i p : ℕ) (kind : Kind) → InMap b i → Child b.nodes p i → OfKind b kind i → (Allowed b p kind → ⊥) → TopologyRule b 20 i
  cpu_map_kind_mixed :
      (i p f : ℕ) (kind first : Kind) →
      InMap b i →
      Map b p ⊎ OfKind b Kind.cluster p →
      Child b.nodes p i →
      FirstChild b p f →
      OfKind b kind i →
      OfKind b first f →
      (kind ≡ first → ⊥) →
      TopologyRule b 20 i
  cpu_map_order_high :
      (i p n : ℕ) (kind : Kind) (siblings : List ℕ) →
      InMap b i →
      Child b.nodes p i →
      Named (node_name b i) kind n →
      Listing (Child b.nodes p) siblings →
      length siblings ≤ n →
      TopologyRule b 21 i
  cpu_map_order_taken :
      (i j p n : ℕ) (kind other : Kind) →
      InMap b i →
      Child b.nodes p i →
      Child b.nodes p j →
      j < i →
      Named (node_name b i) kind n →
      Named (node_name b j) other n →
      TopologyRule b 21 i
  cpu_map_depth :
      (i : ℕ) (above : List ℕ) →
      InMap b i →
      OfKind b Kind.cluster i →
      Listing (ClusterAbove b i) above →
      max_clusters_above < length above →
      TopologyRule b 22 i
  cpu_map_empty : (m : ℕ) → Map b m → Childless b m → TopologyRule b 23 m
  cpu_map_empty_socket : (i : ℕ) → InMap b i → OfKind b Kind.socket i → Childless b i → TopologyRule b 23 i
  cpu_map_empty_cluster : (i : ℕ) → InMap b i → OfKind b Kind.cluster i → Childless b i → TopologyRule b 23 i

-- a sound topology: none of rules 18 to 23 is broken
abbrev pub SoundTopology : Board → Type 0
SoundTopology b = (n p : ℕ) → TopologyRule b n p → ⊥
