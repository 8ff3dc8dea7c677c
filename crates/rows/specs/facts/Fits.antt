-- SPDX-License-Identifier: BSD-2-Clause OR GPL-2.0-or-later
-- Rows that fit a map (01, "The row"): each word as a fact about records, names and properties.
use Rattle.std.specs.Prelude.{◌≡◌, List, ℕ, ◌<◌, ◌*◌, length, get_or}
use Rattle.laws.specs.facts.Listing.{Listing}
use Rattle.layout.specs.facts.Row.{row_size, gap, row_leaf, row_cpu, row_upper, row_lower, row_socket, row_cluster, row_core, row_thread, row_slot, row_at}
use Rattle.affinity.specs.declared.Hash.{Hash}
use Rattle.affinity.specs.facts.Slot.{slot_of}
use Rattle.names.specs.facts.Kind.{Kind, Named}
use Rattle.tables.specs.facts.Board.{Board, riscv, HasMpidrs, node_name}
use Rattle.tables.specs.facts.Tree.{Child, Ancestor}
use Rattle.cpus.specs.facts.Node.{Reg, reg_number}
use Rattle.cpumap.specs.facts.Map.{OfKind, ClusterAbove}
use Rattle.leaves.specs.facts.Leaf.{Leaf, Names}
use Rattle.rows.specs.facts.BoardHash.{BoardHash}

-- the number of the leaf's socket, or GAP
pub data SocketWord (b : Board) (leaf : ℕ) : ℕ → Type 0 where
  in_socket : (s n : ℕ) → Ancestor b.nodes s leaf → Named (node_name b s) Kind.socket n → SocketWord b leaf n
  no_socket : ((s : ℕ) → Ancestor b.nodes s leaf → OfKind b Kind.socket s → ⊥) → SocketWord b leaf gap

-- the number of the leaf's cluster with d clusters above it, or GAP
pub data ClusterWord (b : Board) (leaf d : ℕ) : ℕ → Type 0 where
  in_cluster :
      (c n : ℕ) (above : List ℕ) →
      ClusterAbove b leaf c →
      Named (node_name b c) Kind.cluster n →
      Listing (ClusterAbove b c) above →
      length above ≡ d →
      ClusterWord b leaf d n
  no_cluster :
      ((c : ℕ) (above : List ℕ) → ClusterAbove b leaf c → Listing (ClusterAbove b c) above → length above ≡ d → ⊥) →
      ClusterWord b leaf d gap

-- the number of the leaf's core, itself or a thread's parent
pub data CoreWord (b : Board) (leaf : ℕ) : ℕ → Type 0 where
  itself : (n : ℕ) → Named (node_name b leaf) Kind.core n → CoreWord b leaf n
  of_thread : (p n : ℕ) → OfKind b Kind.thread leaf → Child b.nodes p leaf → Named (node_name b p) Kind.core n → CoreWord b leaf n

-- the thread's number, or GAP
pub data ThreadWord (b : Board) (leaf : ℕ) : ℕ → Type 0 where
  itself : (n : ℕ) → Named (node_name b leaf) Kind.thread n → ThreadWord b leaf n
  not_thread : (OfKind b Kind.thread leaf → ⊥) → ThreadWord b leaf gap

-- the slot of an MPIDR under the board's hash; a hart id has none
pub data SlotWord (b : Board) (m : ℕ) : ℕ → Type 0 where
  slotted : HasMpidrs b → (h : Hash) → BoardHash b h → SlotWord b m (slot_of h m)
  no_slot : b.width ≡ riscv → SlotWord b m gap

-- the words of one row
pub record RowFits (b : Board) (leaf : ℕ) (row : List ℕ) : Type 0 where
  pub size : length row ≡ row_size
  pub leaf_word : row_leaf row ≡ leaf
  pub cpu : Names b leaf (row_cpu row)
  pub reg : Reg b (row_cpu row) (row_upper row) (row_lower row)
  pub socket : SocketWord b leaf (row_socket row)
  pub cluster : (d : ℕ) → d < 4 → ClusterWord b leaf d (row_cluster row d)
  pub core : CoreWord b leaf (row_core row)
  pub thread : ThreadWord b leaf (row_thread row)
  pub slot : SlotWord b (reg_number (row_upper row) (row_lower row)) (row_slot row)

-- a table of rows fits the map: one row for each leaf, in leaf record order
pub record Fits (b : Board) (rows : List ℕ) : Type 0 where
  pub leaves : List ℕ
  pub listing : Listing (Leaf b) leaves
  pub size : length rows ≡ row_size * length leaves
  pub each : (k : ℕ) → k < length leaves → RowFits b (get_or leaves k 0) (row_at rows k)
