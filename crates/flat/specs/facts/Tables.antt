-- SPDX-License-Identifier: BSD-2-Clause OR GPL-2.0-or-later
-- The board that an accepted blob makes: its `/cpus` records, with the blob as the pool; and what of rules 1 to 8 such a board can break.
use Rattle.std.specs.Prelude.{List, ◌⊎◌, ◌≡◌, ℕ, ◌<◌}
use Rattle.laws.specs.facts.Limits.{no_parent, max_nodes, max_properties, max_node_name, max_property_name}
use Rattle.tables.specs.facts.Board.{Board, BoardNumber, board, node_count, name_length, prop_count, prop_node, key_length, prop_name}
use Rattle.wellformed.specs.facts.Rules.{TableRule}
use Rattle.stream.specs.facts.Tree.{Nodes, node_words, prop_words}

abbrev pub board_of : ℕ → List ℕ → Nodes → Board
board_of width blob cpus = board width (node_words no_parent 0 cpus) (prop_words 0 cpus) blob

-- Only the width, the counts of the records, the lengths of names and repeated properties are left to be told: no record is cut, none is missing, no
-- node stands out of order, and every range lies in the pool.
pub data LeftToTell (b : Board) : ℕ → ℕ → Type 0 where
  board_width : (BoardNumber b.width → ⊥) → LeftToTell b 1 0
  node_table_many : max_nodes < node_count b.nodes → LeftToTell b 2 0
  property_table_many : max_properties < prop_count b.props → LeftToTell b 3 0
  node_name_length : {i : ℕ} → i < node_count b.nodes → (name_length b.nodes i ≡ 0) ⊎ (max_node_name < name_length b.nodes i) → LeftToTell b 5 i
  property_name_length :
      {k : ℕ} → k < prop_count b.props → (key_length b.props k ≡ 0) ⊎ (max_property_name < key_length b.props k) → LeftToTell b 7 k
  duplicate_property :
      {j k : ℕ} → j < k → k < prop_count b.props → prop_node b.props j ≡ prop_node b.props k → prop_name b j ≡ prop_name b k → LeftToTell b 8 k

-- what is left to be told of a board by rules 1 to 8
abbrev pub OnlyLeft : Board → Type 0
OnlyLeft b = (n p : ℕ) → TableRule b n p → LeftToTell b n p
