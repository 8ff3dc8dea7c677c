-- SPDX-License-Identifier: BSD-2-Clause OR GPL-2.0-or-later
-- What the proofs of the code cite of the definitions. Assumes nothing.
use mathlib.Core.Path.{◌≡◌, refl, sym, ap, ◌∙◌}
use mathlib.Core.Bool.{Bool, true, false}
use mathlib.Core.List.{List}
use Prim.Native.Nat.{ℕ, ◌+◌, ◌≤◌, ◌<◌}
use native.Mathlib.Omega.{arith}
use borrow.Author.Tests.{le-ltb, eq-eqb, ne_eqb}
use Rattle.laws.specs.answers.Fault.{or_number}
use Rattle.names.specs.declared.TopologyName.{TopologyName}
use Rattle.names.specs.declared.TopologyName.TheVariants.{Socket, Cluster, Core, Thread, Other}
use Rattle.tables.specs.facts.Board.{node_count, parent_word}
use Rattle.tables.specs.answers.Tree.{is_child, is_below}
use Rattle.tables.specs.facts.Tree.{Child, Ancestor}
use Rattle.tables.proofs.TreeLaws.{below_ancestor}
use Rattle.cpumap.specs.answers.Path.{topology_name}
use Rattle.cpumap.specs.answers.Number.{kind_number, topology_number}
use Rattle.topology.specs.answers.Check.{has_child, kind_fault, shape_fault, is_leaf_name, map_record_fault, shape, map_record_shape}
use Rattle.topology.specs.answers.Siblings.{number_fault}

-- a record below another is in the table and has an earlier parent
pub below_later : (nodes : List ℕ) (a i : ℕ) → is_below nodes i a ≡ true → (i < node_count nodes) × (parent_word nodes i < i)
below_later nodes a i h = go (below_ancestor nodes a i h)
  where
    child : {p : ℕ} → Child nodes p i → (i < node_count nodes) × (parent_word nodes i < i)
    child c = (c.inside, rw c.word c.earlier)

    go : Ancestor nodes a i → (i < node_count nodes) × (parent_word nodes i < i)
    go (Ancestor.parent c) = child c
    go (Ancestor.above c t) = child c

-- no record comes after the last
pub no_child : (nodes : List ℕ) (i : ℕ) → node_count nodes ≤ i → false ≡ has_child nodes i
unfolding has_child is_child
no_child nodes i h = rw (le-ltb (i + 1) (node_count nodes) (omega arith))

-- only the kind of Other is 0
pub zero_other : (name : TopologyName) → kind_number name ≡ 0 → name ≡ Other
zero_other (Socket n) e = absurd (omega (arith, e))
zero_other (Cluster n) e = absurd (omega (arith, e))
zero_other (Core n) e = absurd (omega (arith, e))
zero_other (Thread n) e = absurd (omega (arith, e))
zero_other Other e = refl

-- rules 19 to 23 at a record below the map, whose parent is p
pub named_fault :
    (nodes pool : List ℕ) (map i : ℕ) (name : TopologyName) {p : ℕ} →
    (kind_number name ≡ 0 → ⊥) →
    p ≡ parent_word nodes i →
    or_number (kind_fault nodes pool map p name) (or_number (number_fault nodes pool p i (topology_number name)) (shape_fault nodes pool p i name))
    ≡ map_record_fault nodes pool map i name
unfolding map_record_fault
named_fault nodes pool map i name ne e =
    rw (ne_eqb (kind_number name) 0 ne)
    (ap
    (λ (q : ℕ).
    or_number (kind_fault nodes pool map q name)
    (or_number (number_fault nodes pool q i (topology_number name)) (shape_fault nodes pool q i name)))
    e)

-- the shape of a record below the map with a given name
module _
    (nodes pool : List ℕ)
    (map i : ℕ)
    {name : TopologyName}
    {v : ℕ}
    (n : name ≡ topology_name nodes pool i)
    (e : v ≡ map_record_fault nodes pool map i name)
  where
    fault : v ≡ map_record_fault nodes pool map i (topology_name nodes pool i)
    fault = e ∙ ap (map_record_fault nodes pool map i) n

    pub fault_told : (v ≡ 0 → ⊥) → shape v false ≡ map_record_shape nodes pool map i
    unfolding map_record_shape
    fault_told ne = rw (← fault, ne_eqb v 0 ne)

    pub leaf_told : {b : Bool} → v ≡ 0 → b ≡ is_leaf_name nodes i name → shape 0 b ≡ map_record_shape nodes pool map i
    unfolding map_record_shape
    leaf_told z l = rw (eq-eqb _ _ (sym fault ∙ z)) (ap (shape 0) (l ∙ ap (is_leaf_name nodes i) n))
