-- SPDX-License-Identifier: BSD-2-Clause OR GPL-2.0-or-later
-- What holds of the call that reads a blob into rows of bytes (02, W6), for every input.
use Rattle.std.specs.Prelude.{◌≡◌, List, ℕ, ◌/◌, ◌*◌, length, drop}
use Rattle.laws.specs.facts.Limits.{no_property}
use Rattle.wire.specs.facts.Bytes.{word_size, words_in}
use Rattle.affinity.specs.facts.List.{no_hash}
use Rattle.stream.specs.facts.Tree.{Nodes}
use Rattle.flat.specs.facts.Rules.{Cpus, BlobRule, BlobTold}
use Rattle.flat.specs.facts.Tables.{board_of}
use Rattle.demands.specs.facts.Told.{BoardAnswer}
use Rattle.demands.specs.facts.Reading.{Demands}

-- the words of its tables: 1,024 nodes and 1,024 properties of the `/cpus` subtree
abbrev pub node_room : ℕ
node_room = 3 * 1024

abbrev pub prop_room : ℕ
prop_room = 5 * 1024

-- a refusal by one of 31 to 35: its number and its place, no second place, every other result 0
pub record RefusedBlob (n p : ℕ) (answer : BoardAnswer) : Type 0 where
  pub number : answer.number ≡ n
  pub place : answer.place ≡ p
  pub second : answer.second ≡ no_property
  pub count : answer.count ≡ 0
  pub hash : answer.hash ≡ no_hash

-- the one board that a blob makes, and all that is demanded of a board's answer and of its rows, as the words that the bytes hold
pub record ReadBoard (width : ℕ) (blob before : List ℕ) (answer : BoardAnswer) (after : List ℕ) : Type 0 where
  pub cpus : Nodes
  pub is_cpus : Cpus blob cpus
  pub only : (other : Nodes) → Cpus blob other → other ≡ cpus
  pub demands : Demands (board_of width blob cpus) (words_in before) answer (words_in after)

-- a byte buffer before and after the call
pub record ImageDemands (width : ℕ) (blob before : List ℕ) (answer : BoardAnswer) (after : List ℕ) : Type 0 where
  -- 31 to 35 come before all others
  pub refused : (n p : ℕ) → BlobTold blob node_room prop_room n p → RefusedBlob n p answer
  pub read : ((n p : ℕ) → BlobRule blob node_room prop_room n p → ⊥) → ReadBoard width blob before answer after
  -- a refusal leaves every byte, and each call those behind the last whole word
  pub untouched : (answer.number ≡ 0 → ⊥) → after ≡ before
  pub rest : drop (word_size * (length before / word_size)) after ≡ drop (word_size * (length before / word_size)) before
  pub size : length after ≡ length before
