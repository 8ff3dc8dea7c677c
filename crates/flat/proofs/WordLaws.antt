-- SPDX-License-Identifier: BSD-2-Clause OR GPL-2.0-or-later
-- The words of a tree's records: whole records, and what each holds lies in the blob. Assumes nothing.
use mathlib.Core.Path.{◌≡◌, refl}
use mathlib.Core.List.{List, [], ◌∷◌}
use Prim.Native.Nat.{ℕ, ◌+◌, ◌*◌, ◌%◌, ◌≤◌, ◌<◌}
use native.Mathlib.Omega.{arith}
use native.Mathlib.Nat.{add-zero}
use lib.ListN.{length, length-append}
use Rattle.tables.specs.facts.Board.{Inside, node_count, name_offset, name_length, prop_count, prop_node, key_offset, key_length, value_offset, value_length}
use Rattle.stream.specs.facts.Tree.{Property, Nodes, empty, node, property_tokens, size_of, node_words, own_words, prop_words}
use Rattle.flat.proofs.RecordLaws.{Records, none, more, records_append, records_whole, record_at, record_word}
use Rattle.flat.proofs.WithinLaws.{AllWithin, TreeWithin}

pub words_length : (parent n : ℕ) (ns : Nodes) → length (node_words parent n ns) ≡ 3 * size_of ns
unfolding node_words size_of
words_length parent n empty = refl
words_length parent n (node name len props children rest) =
    let behind = n + 1 + size_of children in
    let both = length-append (node_words n (n + 1) children) (node_words parent behind rest) in
    omega (arith, both, words_length n (n + 1) children, words_length parent behind rest)

-- the name of node record i lies in the blob
abbrev pub SoundName : List ℕ → List ℕ → ℕ → Type 0
SoundName blob nodes i = Inside blob (name_offset nodes i) (name_length nodes i)

-- property record k: its node is one of `count` nodes, and its name and its value lie in the blob
pub record SoundRecord (blob : List ℕ) (count : ℕ) (props : List ℕ) (k : ℕ) : Type 0 where
  pub node : prop_node props k < count
  pub key : Inside blob (key_offset props k) (key_length props k)
  pub value : Inside blob (value_offset props k) (value_length props k)

module _ (blob : List ℕ) where
  node_records : (parent n : ℕ) (ns : Nodes) → TreeWithin blob ns → Records 3 (λ r. SoundName blob r 0) (node_words parent n ns)
  unfolding node_words
  node_records parent n empty h = none
  node_records parent n (node name len props children rest) h =
      more (parent ∷ name ∷ len ∷ []) refl h.0
      (records_append (node_records n (n + 1) children h.2) (node_records parent (n + 1 + size_of children) rest h.3))

  module _ (count : ℕ) where
    abbrev PropertyRecords : List ℕ → Type 0
    PropertyRecords props = Records 5 (λ r. SoundRecord blob count r 0) props

    own_records : (n : ℕ) (ps : List Property) → n < count → AllWithin blob (property_tokens ps) → PropertyRecords (own_words n ps)
    unfolding own_words property_tokens
    own_records n [] lt h = none
    own_records n (p ∷ ps) lt h =
        more (n ∷ p.name ∷ p.len ∷ p.value ∷ p.size ∷ []) refl (record { node = lt; key = h.0.0; value = h.0.1 }) (own_records n ps lt h.1)

    prop_records : (n : ℕ) (ns : Nodes) → n + size_of ns ≤ count → TreeWithin blob ns → PropertyRecords (prop_words n ns)
    unfolding prop_words size_of
    prop_records n empty le h = none
    prop_records n (node name len props children rest) le h =
        records_append (own_records n props (omega arith) h.1)
        (records_append (prop_records (n + 1) children (omega arith) h.2) (prop_records (n + 1 + size_of children) rest (omega arith) h.3))

module _ (blob : List ℕ) (ns : Nodes) (h : TreeWithin blob ns) where
  pub node_name : (parent i : ℕ) → let nodes = node_words parent 0 ns in i < node_count nodes → SoundName blob nodes i
  node_name parent i lt =
      let word = record_word 3 (node_words parent 0 ns) i in
      rw (word 1 (omega arith), word 2 (omega arith)) at (record_at (node_records blob parent 0 ns h) i (omega arith))

  abbrev props : List ℕ
  props = prop_words 0 ns

  abbrev of_props : PropertyRecords blob (size_of ns) props
  of_props = prop_records blob (size_of ns) 0 ns (omega arith) h

  pub props_whole : length props % 5 ≡ 0
  props_whole = omega (arith, (records_whole of_props).1)

  pub prop_sound : (k : ℕ) → k < prop_count props → SoundRecord blob (size_of ns) props k
  prop_sound k lt =
      let word = record_word 5 props k in
      let at = record_at of_props k (omega arith) in
      record {
        node = rw (word 0 (omega arith), add-zero) at at.node;
        key = rw (word 1 (omega arith), word 2 (omega arith)) at at.key;
        value = rw (word 3 (omega arith), word 4 (omega arith)) at at.value;
      }
