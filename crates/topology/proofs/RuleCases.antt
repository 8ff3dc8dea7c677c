-- SPDX-License-Identifier: BSD-2-Clause OR GPL-2.0-or-later
-- The broken ones of rules 18 to 23: their stage, at which places they stand, and what they say. Assumes nothing.
use mathlib.Core.Path.{◌≡◌, refl}
use mathlib.Core.Logic.{◌⊎◌, inl, inr}
use Prim.Native.Nat.{ℕ, ◌≤◌, ◌<◌}
use native.Mathlib.Omega.{arith}
use Rattle.names.specs.facts.Kind.{Kind}
use Rattle.tables.specs.facts.Board.{Board, node_count}
use Rattle.wellformed.specs.facts.Order.{stage}
use Rattle.cpumap.specs.facts.Map.{Map, InMap, Outside, OfKind}
use Rattle.cpumap.proofs.MapMeans.{in_map_inside}
use Rattle.topology.specs.facts.Rules.{TopologyRule, Childless}

-- the records of which the rules speak, and the numbers told of each
pub data Place (b : Board) (n i : ℕ) : Type 0 where
  outside : n ≡ 18 → 0 < i → i < node_count b.nodes → Outside b i → Place b n i
  the_map : n ≡ 23 → Map b i → Place b n i
  in_map : 19 ≤ n → n ≤ 23 → InMap b i → Place b n i

module _ {b : Board} where
  below : {n i : ℕ} → stage n ≡ stage 18 → 19 ≤ n → n ≤ 23 → InMap b i → (stage n ≡ stage 18) × Place b n i
  below e l h t = (e, Place.in_map l h t)

  -- a broken rule is of the stage of rule 18
  pub staged : {n i : ℕ} → TopologyRule b n i → (stage n ≡ stage 18) × Place b n i
  staged (TopologyRule.topology_outside_map _ _ pos lt out _) = (refl, Place.outside refl pos lt out)
  staged (TopologyRule.cpu_map_name _ t _) = below refl (omega arith) (omega arith) t
  staged (TopologyRule.cpu_map_kind _ _ _ t _ _ _) = below refl (omega arith) (omega arith) t
  staged (TopologyRule.cpu_map_kind_mixed _ _ _ _ _ t _ _ _ _ _ _) = below refl (omega arith) (omega arith) t
  staged (TopologyRule.cpu_map_order_high _ _ _ _ _ t _ _ _ _) = below refl (omega arith) (omega arith) t
  staged (TopologyRule.cpu_map_order_taken _ _ _ _ _ _ t _ _ _ _ _) = below refl (omega arith) (omega arith) t
  staged (TopologyRule.cpu_map_depth _ _ t _ _ _) = below refl (omega arith) (omega arith) t
  staged (TopologyRule.cpu_map_empty _ map _) = (refl, Place.the_map refl map)
  staged (TopologyRule.cpu_map_empty_socket _ t _ _) = below refl (omega arith) (omega arith) t
  staged (TopologyRule.cpu_map_empty_cluster _ t _ _) = below refl (omega arith) (omega arith) t

  pub place_range : {n i : ℕ} → Place b n i → (n ≤ 23) × (i < node_count b.nodes)
  place_range (Place.outside e _ lt _) = omega arith
  place_range (Place.the_map e map) = omega (arith, map.child.inside)
  place_range (Place.in_map _ h t) = omega (arith, in_map_inside t)

  -- what rules 22 and 23 say of the record
  pub deep_cluster : {i : ℕ} → TopologyRule b 22 i → OfKind b Kind.cluster i
  deep_cluster (TopologyRule.cpu_map_depth _ _ _ is _ _) = is

  pub childless : {i : ℕ} → TopologyRule b 23 i → Childless b i × (Map b i ⊎ (OfKind b Kind.socket i ⊎ OfKind b Kind.cluster i))
  childless (TopologyRule.cpu_map_empty _ map none) = (none, inl map)
  childless (TopologyRule.cpu_map_empty_socket _ _ is none) = (none, inr (inl is))
  childless (TopologyRule.cpu_map_empty_cluster _ _ is none) = (none, inr (inr is))
