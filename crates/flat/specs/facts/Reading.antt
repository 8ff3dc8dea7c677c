-- SPDX-License-Identifier: BSD-2-Clause OR GPL-2.0-or-later
-- What holds of the answer and of both lent tables, for every blob.
use Rattle.std.specs.Prelude.{◌≡◌, ◌↔◌, List, ◌++◌, ℕ, ◌*◌, length, drop}
use Rattle.laws.specs.facts.Limits.{no_parent}
use Rattle.header.specs.facts.Header.{blocks_of}
use Rattle.stream.specs.facts.Tree.{Nodes, node_words, prop_words}
use Rattle.stream.specs.facts.Stream.{Holds}
use Rattle.flat.specs.facts.Told.{BlobAnswer}
use Rattle.flat.specs.facts.Rules.{Cpus, BlobRule, BlobTold}
use Rattle.flat.specs.facts.Tables.{board_of, OnlyLeft}

-- a table with words at its front, and behind them what it held
abbrev pub AtFront : List ℕ → List ℕ → List ℕ → Type 0
AtFront words before after = after ≡ words ++ drop (length words) before

-- a refusal: the broken rule that 02's order tells; both counts 0; both tables as they were
pub record BlobRefused (blob nodes props : List ℕ) (answer : BlobAnswer) (nodes' props' : List ℕ) : Type 0 where
  pub first : BlobTold blob (length nodes) (length props) answer.number answer.place
  pub node_count : answer.nodes ≡ 0
  pub prop_count : answer.props ≡ 0
  pub node_table : nodes' ≡ nodes
  pub prop_table : props' ≡ props

-- an acceptance: the one tree that the blob holds and its one `/cpus` node, that node's records and no others in both tables, both counts, and
-- the board that they make
pub record BlobAccepted (blob nodes props : List ℕ) (answer : BlobAnswer) (nodes' props' : List ℕ) : Type 0 where
  pub place : answer.place ≡ 0
  pub cpus : Nodes
  pub is_cpus : Cpus blob cpus
  pub one_tree : (other : Nodes) → Holds (blocks_of blob) other → other ≡ is_cpus.tree
  pub only : (other : Nodes) → Cpus blob other → other ≡ cpus
  pub node_table : AtFront (node_words no_parent 0 cpus) nodes nodes'
  pub prop_table : AtFront (prop_words 0 cpus) props props'
  pub node_count : 3 * answer.nodes ≡ length (node_words no_parent 0 cpus)
  pub prop_count : 5 * answer.props ≡ length (prop_words 0 cpus)
  pub tables : (width : ℕ) → OnlyLeft (board_of width blob cpus)

-- accepted exactly when no rule is broken
pub record BlobReading (blob nodes props : List ℕ) (answer : BlobAnswer) (nodes' props' : List ℕ) : Type 0 where
  pub exactly : (answer.number ≡ 0) ↔ ((n p : ℕ) → BlobRule blob (length nodes) (length props) n p → ⊥)
  pub refused : (answer.number ≡ 0 → ⊥) → BlobRefused blob nodes props answer nodes' props'
  pub accepted : answer.number ≡ 0 → BlobAccepted blob nodes props answer nodes' props'
