-- SPDX-License-Identifier: BSD-2-Clause OR GPL-2.0-or-later
-- The check answers as leaves the leaves that name a cpu record. Assumes well-formed tables and phandles.
use mathlib.Core.Path.{◌≡◌, refl, sym, ap, ◌∙◌}
use mathlib.Core.Bool.{Bool, true, false, cond}
use Prim.Native.Nat.{ℕ, ◌<◌}
use native.Mathlib.Omega.{arith}
use lib.ListN.{length}
use Rattle.laws.proofs.SearchLaws.{true_false}
use Rattle.names.specs.declared.TopologyName.{TopologyName}
use Rattle.names.specs.facts.Kind.{Kind}
use Rattle.tables.specs.facts.Board.{Board, WordSized}
use Rattle.wellformed.specs.facts.Rules.{WellFormed}
use Rattle.wellformed.proofs.WellFormedLaws.{wf_depth}
use Rattle.cpus.specs.facts.Rules.{SoundPhandles}
use Rattle.cpus.specs.answers.Check.{cpu_list}
use Rattle.leaves.specs.facts.Told.{RecordCheck}
use Rattle.cpumap.specs.facts.Map.{Map, InMap}
use Rattle.cpumap.specs.answers.Path.{topology_name}
use Rattle.topology.specs.answers.Check.{has_child, is_leaf_name}
use Rattle.leaves.specs.answers.Scan.{Tree, tree_at, check, is_leaf, cpu_of}
use Rattle.topology.proofs.ChildMeans.{childless_test}
use Rattle.cpumap.proofs.NameFacts.{Says, topology_is, topology_says}
use Rattle.cpumap.proofs.MapMeans.{in_map_inside}
use Rattle.topology.proofs.ShapeMeans.{leaf_shape, sound_shape}
use Rattle.leaves.specs.facts.Leaf.{Leaf, Names}
use Rattle.leaves.proofs.RuleCases.{leaf_in_map}
use Rattle.leaves.proofs.CheckCases.{Checked, checked}
use Rattle.leaves.proofs.LeafCount.{leaf_is}
use Rattle.leaves.proofs.PhandleMeans.{cpu_at, cpu_index, in_cpus}
use Rattle.leaves.proofs.LeafMeans.{index_names, names_index}

-- the names of leaves
module _ {b : Board} (well : WellFormed b) (i : ℕ) where
  pub name_leaf : InMap b i → is_leaf_name b.nodes i (topology_name b.nodes b.pool i) ≡ true → Leaf b i
  name_leaf s = go (topology_says b well i (in_map_inside s))
    where
      childless : (t : Bool) → has_child b.nodes i ≡ t → cond t false true ≡ true → has_child b.nodes i ≡ false
      childless true e h = true_false h refl
      childless false e h = e

      go : {x : TopologyName} → Says b i x → is_leaf_name b.nodes i x ≡ true → Leaf b i
      go (Says.socket n p) h = true_false h refl
      go (Says.cluster n p) h = true_false h refl
      go (Says.core n p) h = Leaf.a_core s (n, p) ((childless_test b.nodes (wf_depth well) i).0 (childless (has_child b.nodes i) refl h))
      go (Says.thread n p) h = Leaf.a_thread s (n, p)
      go (Says.other none) h = true_false h refl

  pub leaf_name : Leaf b i → is_leaf_name b.nodes i (topology_name b.nodes b.pool i) ≡ true
  leaf_name (Leaf.a_thread s t) = rw ((topology_is b well i Kind.thread t.0 (in_map_inside s)).1 t.1)
  leaf_name (Leaf.a_core s t none) =
      rw ((topology_is b well i Kind.core t.0 (in_map_inside s)).1 t.1, (childless_test b.nodes (wf_depth well) i).1 none)

module _ {b : Board} (sized : WordSized b) (well : WellFormed b) (handles : SoundPhandles b) {m : ℕ} (is_map : Map b m) (i : ℕ) where
  abbrev t : Tree
  t = tree_at b m

  -- a record that the check answers as a leaf is one, and names the cpu record answered
  pub check_leaf : is_leaf t i ≡ true → Leaf b i × Names b i (cpu_at b (cpu_of t i)) × (cpu_of t i < length (cpu_list b))
  check_leaf h =
      let n = leaf_is t i h in
      let s = leaf_shape b is_map i n.leaf in (
        name_leaf well i s.0 s.2,
        rw n.cpu (index_names sized well handles i (rw n.cpu at n.inside)),
        in_cpus b n.inside,
      )

  -- a leaf at which the check answers no number is answered as one
  pub leaf_check : Leaf b i → (check t i).number ≡ 0 → is_leaf t i ≡ true
  leaf_check l z = go (checked t i)
    where
      go : Checked t i → is_leaf t i ≡ true
      go (Checked.inner f a) =
          let shape = sound_shape b is_map i (leaf_in_map l) (sym (ap (λ (r : RecordCheck). r.number) a) ∙ z) in
          true_false (shape.1 ∙ leaf_name well i l) f
      go (Checked.nameless f le a) = let q = sym (ap (λ (r : RecordCheck). r.number) a) ∙ z in absurd (omega arith)
      go (Checked.leaf f lt a) = ap (λ (r : RecordCheck). r.leaf) a

  -- the cpu answered is the index of the cpu record that the leaf names
  pub names_cpu : (c : ℕ) → is_leaf t i ≡ true → Names b i c → cpu_of t i ≡ cpu_index b c
  names_cpu c h n = (leaf_is t i h).cpu ∙ names_index sized well handles i c n
