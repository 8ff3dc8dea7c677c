-- SPDX-License-Identifier: BSD-2-Clause OR GPL-2.0-or-later
-- Rules 1 to 8 as facts: each constructor is a way to break a rule of that number at that place.
use Rattle.std.specs.Prelude.{◌≡◌, ◌⊎◌, ℕ, suc, ◌%◌, ◌<◌, ◌≤◌, length}
use Rattle.laws.specs.facts.Limits.{max_node_name, max_property_name, no_parent, max_nodes, max_properties, max_pool}
use Rattle.tables.specs.facts.Board.{Board, Inside, node_count, parent_word, name_offset, name_length, prop_count, prop_node, key_offset, key_length}
use Rattle.tables.specs.facts.Board.{value_offset, value_length, prop_name, BoardNumber}
use Rattle.tables.specs.facts.Tree.{Ancestor}

pub data TableRule (b : Board) : ℕ → ℕ → Type 0 where
  board_width : (BoardNumber b.width → ⊥) → TableRule b 1 0
  node_table_part : (length b.nodes % 3 ≡ 0 → ⊥) → TableRule b 2 0
  node_table_empty : node_count b.nodes ≡ 0 → TableRule b 2 0
  node_table_many : max_nodes < node_count b.nodes → TableRule b 2 0
  property_table_part : (length b.props % 5 ≡ 0 → ⊥) → TableRule b 3 0
  property_table_many : max_properties < prop_count b.props → TableRule b 3 0
  pool_size : max_pool < length b.pool → TableRule b 4 0
  node_name_length : (i : ℕ) → i < node_count b.nodes → (name_length b.nodes i ≡ 0) ⊎ (max_node_name < name_length b.nodes i) → TableRule b 5 i
  node_name_range : (i : ℕ) → i < node_count b.nodes → (Inside b.pool (name_offset b.nodes i) (name_length b.nodes i) → ⊥) → TableRule b 5 i
  node_parent_root : 0 < node_count b.nodes → (parent_word b.nodes 0 ≡ no_parent → ⊥) → TableRule b 6 0
  node_parent_order :
      (i : ℕ) →
      suc i < node_count b.nodes →
      (parent_word b.nodes (suc i) ≡ i → ⊥) →
      (Ancestor b.nodes (parent_word b.nodes (suc i)) i → ⊥) →
      TableRule b 6 (suc i)
  property_node : (k : ℕ) → k < prop_count b.props → node_count b.nodes ≤ prop_node b.props k → TableRule b 7 k
  property_name_length :
      (k : ℕ) → k < prop_count b.props → (key_length b.props k ≡ 0) ⊎ (max_property_name < key_length b.props k) → TableRule b 7 k
  property_name_range : (k : ℕ) → k < prop_count b.props → (Inside b.pool (key_offset b.props k) (key_length b.props k) → ⊥) → TableRule b 7 k
  property_value_range :
      (k : ℕ) → k < prop_count b.props → (Inside b.pool (value_offset b.props k) (value_length b.props k) → ⊥) → TableRule b 7 k
  duplicate_property :
      (j k : ℕ) → j < k → k < prop_count b.props → prop_node b.props j ≡ prop_node b.props k → prop_name b j ≡ prop_name b k → TableRule b 8 k

-- well-formed tables: none of rules 1 to 8 is broken
abbrev pub WellFormed : Board → Type 0
WellFormed b = (n p : ℕ) → TableRule b n p → ⊥
