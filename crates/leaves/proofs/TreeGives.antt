-- SPDX-License-Identifier: BSD-2-Clause OR GPL-2.0-or-later
-- The leaves of an accepted map: their list, and the cpu records that they name, each once. Assumes well-formed tables, sound cpu nodes and phandles.
use mathlib.Core.Path.{◌≡◌, refl}
use mathlib.Core.Bool.{Bool, true, false}
use mathlib.Core.Logic.{⊎_elim}
use Prim.Native.Nat.{ℕ, ◌≤◌, ◌<◌}
use native.Mathlib.Nat.{le_antisymm}
use lib.ListN.{length}
use Rattle.laws.specs.facts.Listing.{Listing}
use Rattle.laws.proofs.FirstLaws.{compared}
use Rattle.laws.proofs.ListingLaws.{listed, listing_into}
use Rattle.tables.specs.facts.Board.{Board, WordSized, node_count}
use Rattle.wellformed.specs.facts.Rules.{WellFormed}
use Rattle.cpus.specs.facts.Node.{Cpu}
use Rattle.laws.specs.facts.Limits.{max_cpus}
use Rattle.cpus.specs.facts.Rules.{SoundCpus, SoundPhandles}
use Rattle.cpus.specs.answers.Check.{cpu_list}
use Rattle.cpus.proofs.CpuMeans.{cpu_listing}
use Rattle.cpumap.specs.facts.Map.{Map}
use Rattle.topology.specs.facts.Rules.{SoundTopology}
use Rattle.leaves.specs.facts.Leaf.{Leaf, Names}
use Rattle.leaves.specs.facts.Rules.{LeafRule, SoundLeaves}
use Rattle.leaves.specs.answers.Scan.{Tree, tree_at, check, is_leaf, cpu_of, named_below, leaf_list}
use Rattle.leaves.proofs.RuleCases.{leaf_inside}
use Rattle.leaves.proofs.PhandleMeans.{cpu_at, cpu_index, phandle_count, few_phandles}
use Rattle.leaves.proofs.LeafMeans.{names_unique}
use Rattle.leaves.proofs.CheckLeaf.{check_leaf, leaf_check}
use Rattle.leaves.proofs.LeafRules.{cpu_named, cpu_unnamed}
use Rattle.leaves.proofs.TreeLeast.{sound_checks}

module _
    {b : Board}
    (sized : WordSized b)
    (well : WellFormed b)
    (cpus : SoundCpus b)
    (handles : SoundPhandles b)
    {m : ℕ}
    (is_map : Map b m)
    (topology : SoundTopology b)
    (leaves : SoundLeaves b)
  where
    abbrev t : Tree
    t = tree_at b m

    clean : (k : ℕ) → k < node_count b.nodes → (check t k).number ≡ 0
    clean = sound_checks sized well cpus handles is_map (λ n p r _. ⊎_elim (topology n p) (leaves n p) r)

    -- every leaf is answered as one
    pub leaf_answered : (i : ℕ) → Leaf b i → is_leaf t i ≡ true
    leaf_answered i l = leaf_check sized well handles is_map i l (clean i (leaf_inside l))

    pub leaf_listing : Listing (Leaf b) (leaf_list t)
    leaf_listing =
        listed (is_leaf t) (node_count b.nodes) (λ i l. (leaf_inside l, leaf_answered i l))
        (λ i _ h. (check_leaf sized well handles is_map i h).0)

    -- every leaf names the cpu record answered ..
    pub leaf_names : (i : ℕ) → Leaf b i → Names b i (cpu_at b (cpu_of t i))
    leaf_names i l = (check_leaf sized well handles is_map i (leaf_answered i l)).1

    pub leaf_cpu_lem : (i : ℕ) → Leaf b i → cpu_of t i < length (cpu_list b)
    leaf_cpu_lem i l = (check_leaf sized well handles is_map i (leaf_answered i l)).2

    -- .. no two of them the same ..
    pub leaves_apart : (i j c : ℕ) → Leaf b i → Leaf b j → Names b i c → Names b j c → i ≡ j
    leaves_apart i j c l k p q =
        ⊎_elim
        (λ lt. absurd (leaves 25 j (LeafRule.cpu_map_cpu_repeated j i c k l lt q p)))
        (⊎_elim (λ e. e) (λ lt. absurd (leaves 25 i (LeafRule.cpu_map_cpu_repeated i j c l k lt p q))))
        (compared i j)

    -- .. and every cpu record is named
    pub cpu_leaf : (c : ℕ) → Cpu b c → (i : ℕ) × Leaf b i × Names b i c
    cpu_leaf c cpu = go (named_below t (node_count b.nodes) (cpu_index b c)) refl
      where
        go : (s : Bool) → named_below t (node_count b.nodes) (cpu_index b c) ≡ s → (i : ℕ) × Leaf b i × Names b i c
        go true e = cpu_named sized well handles is_map c cpu e
        go false e = absurd (leaves 26 c (LeafRule.cpu_unmapped c cpu (cpu_unnamed sized well handles is_map clean c e)))

    -- so there are as many leaves as cpu records
    pub same_count : length (leaf_list t) ≡ length (cpu_list b)
    same_count =
        le_antisymm
        (listing_into {R = Names b} (leaf_list t) (cpu_list b) leaf_listing (cpu_listing well)
        (λ i l. let n = leaf_names i l in (cpu_at b (cpu_of t i), n.is_cpu, n)) leaves_apart)
        (listing_into {R = λ c i. Names b i c} (cpu_list b) (leaf_list t) (cpu_listing well) leaf_listing cpu_leaf
        (λ c d i _ _. names_unique sized well handles i c d))

    pub few_leaves : length (leaf_list t) ≤ max_cpus
    few_leaves = rw same_count (rw (phandle_count b) at (few_phandles sized well cpus))
