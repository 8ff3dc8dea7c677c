-- SPDX-License-Identifier: BSD-2-Clause OR GPL-2.0-or-later
-- The tree of a devicetree, its tokens in order, and the records of its nodes and properties.
use Rattle.std.specs.Prelude.{◌≡◌, List, [], ◌∷◌, ◌++◌, ℕ, ◌+◌}
use Rattle.tables.specs.facts.Board.{range}
use Rattle.tables.specs.facts.Binding.{cpus_word}
use Rattle.tokens.specs.facts.Token.{Token, begin, close, property}

-- a property: where its name and its value stand in the blob, and how long they are
pub record Property : Type 0 where
  pub name : ℕ
  pub len : ℕ
  pub value : ℕ
  pub size : ℕ

-- nodes side by side: none, or a node with its name, its properties and its children, and the nodes behind it
pub data Nodes : Type 0 where
  empty : Nodes
  node : (name len : ℕ) (props : List Property) (children rest : Nodes) → Nodes

unfoldable pub property_tokens : List Property → List Token
property_tokens [] = []
property_tokens (p ∷ ps) = property p.name p.len p.value p.size ∷ property_tokens ps

-- a node is its begin token, its properties, its children and its close token
unfoldable pub tokens_of : Nodes → List Token
tokens_of empty = []
tokens_of (node name len props children rest) = begin name len ∷ (property_tokens props ++ (tokens_of children ++ (close ∷ tokens_of rest)))

-- how many nodes, with all below them
unfoldable pub size_of : Nodes → ℕ
size_of empty = 0
size_of (node name len props children rest) = 1 + size_of children + size_of rest

-- The words of the node records, each node before those below it: n is the number of the first, `parent` the parent word of those side by side.
unfoldable pub node_words : ℕ → ℕ → Nodes → List ℕ
node_words parent n empty = []
node_words parent n (node name len props children rest) =
    (parent ∷ name ∷ len ∷ []) ++ (node_words n (n + 1) children ++ node_words parent (n + 1 + size_of children) rest)

-- the words of the property records of node record n
unfoldable pub own_words : ℕ → List Property → List ℕ
own_words n [] = []
own_words n (p ∷ ps) = (n ∷ p.name ∷ p.len ∷ p.value ∷ p.size ∷ []) ++ own_words n ps

-- the words of the property records of all nodes, in the order of the nodes; n is the number of the first node
unfoldable pub prop_words : ℕ → Nodes → List ℕ
prop_words n empty = []
prop_words n (node name len props children rest) =
    own_words n props ++ (prop_words (n + 1) children ++ prop_words (n + 1 + size_of children) rest)

-- those of some nodes side by side whose name is `cpus`, each with all below it
pub data CpusAmong (bytes : List ℕ) : Nodes → List Nodes → Type 0 where
  none : CpusAmong bytes empty []
  named :
      {name len : ℕ} {props : List Property} {children rest : Nodes} {found : List Nodes} →
      range bytes name len ≡ cpus_word →
      CpusAmong bytes rest found →
      CpusAmong bytes (node name len props children rest) (node name len props children empty ∷ found)
  other :
      {name len : ℕ} {props : List Property} {children rest : Nodes} {found : List Nodes} →
      (range bytes name len ≡ cpus_word → ⊥) →
      CpusAmong bytes rest found →
      CpusAmong bytes (node name len props children rest) found
