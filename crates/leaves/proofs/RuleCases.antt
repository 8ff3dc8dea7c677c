-- SPDX-License-Identifier: BSD-2-Clause OR GPL-2.0-or-later
-- The broken ones of rules 18 to 26: their stages, and at which places they stand. Assumes nothing.
use mathlib.Core.Path.{◌≡◌}
use mathlib.Core.Logic.{◌⊎◌, inl, inr}
use Prim.Native.Nat.{ℕ, ◌≤◌, ◌<◌}
use native.Mathlib.Omega.{arith}
use Rattle.tables.specs.facts.Board.{Board, node_count}
use Rattle.wellformed.specs.facts.Order.{stage}
use Rattle.cpumap.specs.facts.Map.{InMap}
use Rattle.cpumap.proofs.MapMeans.{in_map_inside}
use Rattle.topology.specs.facts.Rules.{TopologyRule}
use Rattle.topology.proofs.RuleCases as topology
use Rattle.leaves.specs.facts.Leaf.{Leaf}
use Rattle.leaves.specs.facts.Rules.{LeafRule}

-- rules 18 to 26: rules 18 to 25 are one stage
abbrev pub TreeRule : Board → ℕ → ℕ → Type 0
TreeRule b n i = TopologyRule b n i ⊎ LeafRule b n i

module _ {b : Board} where
  -- a leaf is below the map, and so a record
  pub leaf_in_map : {i : ℕ} → Leaf b i → InMap b i
  leaf_in_map (Leaf.a_thread s _) = s
  leaf_in_map (Leaf.a_core s _ _) = s

  pub leaf_inside : {i : ℕ} → Leaf b i → i < node_count b.nodes
  leaf_inside l = in_map_inside (leaf_in_map l)

  -- rules 24 and 25 are told of leaves
  pub rule_leaf : {n i : ℕ} → LeafRule b n i → stage n ≡ stage 18 → Leaf b i
  rule_leaf (LeafRule.cpu_map_phandle _ l _) _ = l
  rule_leaf (LeafRule.cpu_map_cpu_repeated _ _ _ l _ _ _ _) _ = l
  rule_leaf (LeafRule.cpu_unmapped _ _ _) e = absurd (omega arith)

  -- the numbers of the leaves' rules, and their stages
  pub leaf_staged : {n i : ℕ} → LeafRule b n i → (24 ≤ n) × (stage 18 ≤ stage n) × (stage n < stage 27)
  leaf_staged (LeafRule.cpu_map_phandle _ _ _) = omega arith
  leaf_staged (LeafRule.cpu_map_cpu_repeated _ _ _ _ _ _ _ _) = omega arith
  leaf_staged (LeafRule.cpu_unmapped _ _ _) = omega arith

  pub in_order : {i : ℕ} (n m : ℕ) → TopologyRule b n i → LeafRule b m i → n ≤ m
  in_order n m r l = omega (arith, (topology.place_range (topology.staged r).1).0, (leaf_staged l).0)

  pub tree_staged : {n i : ℕ} → TreeRule b n i → (stage 18 ≤ stage n) × (stage n < stage 27)
  tree_staged (inl r) = omega (arith, (topology.staged r).0)
  tree_staged (inr l) = ((leaf_staged l).1, (leaf_staged l).2)

  pub tree_inside : {n i : ℕ} → TreeRule b n i → stage n ≡ stage 18 → i < node_count b.nodes
  tree_inside (inl r) _ = (topology.place_range (topology.staged r).1).1
  tree_inside (inr l) e = leaf_inside (rule_leaf l e)
