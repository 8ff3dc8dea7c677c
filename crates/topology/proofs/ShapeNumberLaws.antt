-- SPDX-License-Identifier: BSD-2-Clause OR GPL-2.0-or-later
-- The numbers that the shape of a record tells: 18 to 23, or 0. Assumes nothing.
use mathlib.Core.Path.{◌≡◌, refl}
use mathlib.Core.Bool.{Bool, true, false, cond}
use mathlib.Core.List.{List}
use Prim.Native.Nat.{ℕ, zero, suc, ◌+◌, ◌≤◌}
use native.Mathlib.Omega.{arith}
use lib.Dec.{eqb, ltb}
use Rattle.laws.specs.answers.Fault.{or_number}
use Rattle.names.specs.declared.TopologyName.{TopologyName}
use Rattle.names.specs.declared.TopologyName.TheVariants.{Socket, Cluster, Core, Thread, Other}
use Rattle.tables.specs.facts.Board.{parent_word}
use Rattle.tables.specs.answers.Tree.{is_below}
use Rattle.cpumap.specs.answers.Number.{kind_number, topology_number}
use Rattle.cpumap.specs.answers.Path.{topology_name, cluster_path}
use Rattle.topology.specs.facts.Told.{RecordShape}
use Rattle.topology.specs.answers.Siblings.{is_free, number_fault}
use Rattle.topology.specs.answers.Check.{has_child, allowed_under, allowed_in_map, kind_fault, group_fault, depth_fault, is_leaf_name, shape_fault}
use Rattle.topology.specs.answers.Check.{map_record_fault, map_record_shape, shape, record_shape}

abbrev pub Range : ℕ → Type 0
Range v = (v ≤ 23) × ((v ≡ 0 → ⊥) → 18 ≤ v)

none : Range 0
none = (omega arith, λ ne. absurd (ne refl))

one : (v : ℕ) → 18 ≤ v → v ≤ 23 → Range v
one v low high = (high, λ _. low)

either : (t : Bool) {a b : ℕ} → Range a → Range b → Range (cond t a b)
either true r s = r
either false r s = s

first : (a b : ℕ) → Range a → Range b → Range (or_number a b)
first zero b r s = s
first (suc a) b r s = r

shaped : (t : Bool) (a b : RecordShape) → Range a.number → Range b.number → Range (cond t a b).number
shaped true a b r s = r
shaped false a b r s = s

module _ (nodes pool : List ℕ) (map : ℕ) where
  group : (i : ℕ) → Range (group_fault nodes i)
  group i = either (has_child nodes i) none (one 23 (omega arith) (omega arith))

  deep : (p : ℕ) → Range (depth_fault nodes pool p)
  unfolding depth_fault
  deep p = either (ltb (cluster_path nodes pool p).depth 4) none (one 22 (omega arith) (omega arith))

  by_kind : (p i : ℕ) (name : TopologyName) → Range (shape_fault nodes pool p i name)
  by_kind p i (Socket n) = group i
  by_kind p i (Cluster n) = first (depth_fault nodes pool p) (group_fault nodes i) (deep p) (group i)
  by_kind p i (Core n) = none
  by_kind p i (Thread n) = none
  by_kind p i Other = one 19 (omega arith) (omega arith)

  kind : (p : ℕ) (name : TopologyName) → Range (kind_fault nodes pool map p name)
  unfolding kind_fault
  kind p name =
      either (cond (eqb p map) (allowed_in_map name) (allowed_under (topology_name nodes pool p) name))
      (either (eqb (kind_number name) (kind_number (topology_name nodes pool (p + 1)))) none (one 20 (omega arith) (omega arith)))
      (one 20 (omega arith) (omega arith))

  in_map : (i : ℕ) (name : TopologyName) → Range (map_record_fault nodes pool map i name)
  unfolding map_record_fault
  in_map i name =
      let p = parent_word nodes i in
      let number = number_fault nodes pool p i (topology_number name) in
      either (eqb (kind_number name) 0) (one 19 (omega arith) (omega arith))
      (first (kind_fault nodes pool map p name) (or_number number (shape_fault nodes pool p i name)) (kind p name)
      (first number (shape_fault nodes pool p i name) (numbered p i) (by_kind p i name)))
    where
      numbered : (p i : ℕ) → Range (number_fault nodes pool p i (topology_number name))
      numbered p i = either (is_free nodes pool p i (topology_number name)) none (one 21 (omega arith) (omega arith))

  map_shape : (i : ℕ) → Range (map_record_shape nodes pool map i).number
  unfolding map_record_shape
  map_shape i =
      let name = topology_name nodes pool i in
      let fault = map_record_fault nodes pool map i name in
      shaped (eqb fault 0) (shape 0 (is_leaf_name nodes i name)) (shape fault false) none (in_map i name)

  pub shape_range : (i : ℕ) → Range (record_shape nodes pool map i).number
  unfolding record_shape
  shape_range i =
      let outside = shape (cond (eqb (kind_number (topology_name nodes pool i)) 0) 0 18) false in
      let below = cond (is_below nodes i map) (map_record_shape nodes pool map i) outside in
      let map_or_below = cond (eqb i map) (shape (group_fault nodes i) false) below in
      shaped (eqb i 0) (shape 0 false) map_or_below none
      (shaped (eqb i map) (shape (group_fault nodes i) false) below (group i)
      (shaped (is_below nodes i map) (map_record_shape nodes pool map i) outside (map_shape i)
      (either (eqb (kind_number (topology_name nodes pool i)) 0) none (one 18 (omega arith) (omega arith)))))
