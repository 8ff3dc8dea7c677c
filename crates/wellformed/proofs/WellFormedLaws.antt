-- SPDX-License-Identifier: BSD-2-Clause OR GPL-2.0-or-later
-- What well-formed tables have. Assumes nothing.
use mathlib.Core.Path.{◌≡◌}
use mathlib.Core.List.{List}
use Prim.Native.Nat.{ℕ, suc, ◌<◌}
use Rattle.laws.proofs.VerdictLaws.{held}
use Rattle.laws.specs.facts.Limits.{max_node_name}
use Rattle.tables.specs.facts.Board.{Board, node_count, name_offset, name_length, prop_count, prop_node}
use Rattle.tables.specs.facts.Property.{Property, HasValue}
use Rattle.wellformed.specs.facts.Rules.{WellFormed}
use Rattle.tables.proofs.DepthLaws.{DepthFirst}
use Rattle.wellformed.proofs.UniqueLaws.{property_unique, value_unique}
use Rattle.wellformed.proofs.SoundLaws.{Verdicts, Name, NodeWords, PropWords, SoundProperty, nodes_told, props_told, node_told, property_told}

module _ {b : Board} (wf : WellFormed b) where
  kept_first : {m n q v : ℕ} {P Q : Type 0} → Verdicts b m n q P Q v → P
  kept_first (Verdicts.first r) = absurd (wf _ _ r)
  kept_first (Verdicts.second p s) = p

  kept_second : {m n q v : ℕ} {P Q : Type 0} → Verdicts b m n q P Q v → Q
  kept_second (Verdicts.first r) = absurd (wf _ _ r)
  kept_second (Verdicts.second p s) = held s (wf _ _)

  -- the sizes of the tables
  pub wf_nodes : NodeWords b
  wf_nodes = held (nodes_told b) (wf 2 0)

  pub wf_props : PropWords b
  wf_props = held (props_told b) (wf 3 0)

  -- node records
  pub wf_name : (i : ℕ) → i < node_count b.nodes → Name b.pool max_node_name (name_offset b.nodes i) (name_length b.nodes i)
  wf_name i lt = kept_first (node_told b i lt)

  pub wf_depth : DepthFirst b.nodes
  wf_depth i lt = kept_second (node_told b (suc i) lt)

  -- property records
  wf_property : (k : ℕ) → k < prop_count b.props → SoundProperty b k
  wf_property k lt = kept_first (property_told b k lt)

  pub wf_prop_node : (k : ℕ) → k < prop_count b.props → prop_node b.props k < node_count b.nodes
  wf_prop_node k lt = (wf_property k lt).node

  -- a record has at most one property of a name, with one value, and the lookup finds it
  module _ {i : ℕ} {key : List ℕ} where
    pub wf_unique : {j k : ℕ} → Property b i key j → Property b i key k → j ≡ k
    wf_unique = property_unique b i key (wf 8)

    pub wf_value_unique : {v w : List ℕ} → HasValue b i key v → HasValue b i key w → v ≡ w
    wf_value_unique = value_unique b i key (wf 8)
