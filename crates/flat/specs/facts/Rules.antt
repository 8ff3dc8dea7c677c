-- SPDX-License-Identifier: BSD-2-Clause OR GPL-2.0-or-later
-- Rules 31 to 35 (02, W2) as facts: each constructor is a way to break a rule of that number at that place.
use Rattle.std.specs.Prelude.{◌≡◌, List, [], ◌∷◌, ℕ, ◌+◌, ◌%◌, ◌<◌, length}
use Rattle.laws.specs.facts.Limits.{no_parent, max_blob}
use Rattle.laws.specs.facts.First.{stage_in, First}
use Rattle.header.specs.facts.Header.{header_bytes, magic_number, format_version, magic, total_size, structure_at, strings_at, version}
use Rattle.header.specs.facts.Header.{last_compatible, strings_size, structure_size, blocks_of}
use Rattle.stream.specs.facts.Tree.{Nodes, empty, node, CpusAmong, node_words, prop_words}
use Rattle.stream.specs.facts.Stream.{Holds, BrokenAt}

abbrev pub children_of : Nodes → Nodes
children_of empty = empty
children_of (node name len props children rest) = children

-- the blob holds a tree, and these are the children of its root named `cpus`, each with all below it
pub record CpusNodes (blob : List ℕ) (found : List Nodes) : Type 0 where
  pub tree : Nodes
  pub holds : Holds (blocks_of blob) tree
  pub among : CpusAmong (blocks_of blob).structure (children_of tree) found

-- the blob's `/cpus` node, the only one
abbrev pub Cpus : List ℕ → Nodes → Type 0
Cpus blob cpus = CpusNodes blob (cpus ∷ [])

-- a rule is broken at a place, for a blob and lent tables of so many words
pub data BlobRule (blob : List ℕ) (node_room prop_room : ℕ) : ℕ → ℕ → Type 0 where
  blob_header_short : length blob < header_bytes → BlobRule blob node_room prop_room 31 0
  blob_header_long : max_blob < length blob → BlobRule blob node_room prop_room 31 0
  blob_header_magic : (magic blob ≡ magic_number → ⊥) → BlobRule blob node_room prop_room 31 0
  blob_header_total_small : total_size blob < header_bytes → BlobRule blob node_room prop_room 31 0
  blob_header_total_large : length blob < total_size blob → BlobRule blob node_room prop_room 31 0
  blob_header_version : version blob < format_version → BlobRule blob node_room prop_room 31 0
  blob_header_compatible : format_version < last_compatible blob → BlobRule blob node_room prop_room 31 0
  blob_blocks_structure : total_size blob < structure_at blob + structure_size blob → BlobRule blob node_room prop_room 32 0
  blob_blocks_strings : total_size blob < strings_at blob + strings_size blob → BlobRule blob node_room prop_room 32 0
  blob_blocks_offset : (structure_at blob % 4 ≡ 0 → ⊥) → BlobRule blob node_room prop_room 32 0
  blob_blocks_size : (structure_size blob % 4 ≡ 0 → ⊥) → BlobRule blob node_room prop_room 32 0
  blob_structure : {p : ℕ} → BrokenAt (blocks_of blob) p → BlobRule blob node_room prop_room 33 p
  blob_cpus : {found : List Nodes} → CpusNodes blob found → (length found ≡ 1 → ⊥) → BlobRule blob node_room prop_room 34 0
  table_space_nodes : {cpus : Nodes} → Cpus blob cpus → node_room < length (node_words no_parent 0 cpus) → BlobRule blob node_room prop_room 35 0
  table_space_properties : {cpus : Nodes} → Cpus blob cpus → prop_room < length (prop_words 0 cpus) → BlobRule blob node_room prop_room 35 0

-- the order in which broken rules are told: the stages, each with its numbers
abbrev pub blob_stages : List (List ℕ)
blob_stages = (31 ∷ []) ∷ (32 ∷ []) ∷ (33 ∷ []) ∷ (34 ∷ []) ∷ (35 ∷ []) ∷ []

-- the broken rule that this order tells
abbrev pub BlobTold : List ℕ → ℕ → ℕ → ℕ → ℕ → Type 0
BlobTold blob node_room prop_room n p = First (stage_in blob_stages) (BlobRule blob node_room prop_room) n p
