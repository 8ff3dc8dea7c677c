-- SPDX-License-Identifier: BSD-2-Clause OR GPL-2.0-or-later
-- Rules 19 to 23 at a record below the map: the smallest that is broken is told.
-- Assumes well-formed tables, no topology name of record 0, and sound earlier records.
use mathlib.Core.Path.{◌≡◌}
use mathlib.Core.Logic.{⊎_elim, ◌↔◌}
use mathlib.Core.List.{List}
use Prim.Native.Nat.{ℕ, ◌≤◌, ◌<◌}
use native.Mathlib.Omega.{arith}
use lib.ListN.{length}
use Rattle.laws.specs.answers.Fault.{or_number}
use Rattle.laws.specs.facts.Listing.{Listing}
use Rattle.laws.specs.answers.Search.{any_below, list_below}
use Rattle.laws.proofs.SearchLaws.{lt_or_le, list_length}
use Rattle.laws.proofs.ListingLaws.{listing_unique}
use Rattle.laws.proofs.LeastLaws.{Tested, Least, least_low, least_one, least_then}
use Rattle.laws.proofs.DecideLaws.{Decides, lt_decides, then_decides, without_decides, any_decides, holds_unless}
use Rattle.laws.proofs.TestedLaws.{tested_unless}
use Rattle.names.specs.declared.TopologyName.{TopologyName}
use Rattle.names.specs.declared.TopologyName.TheVariants.{Other}
use Rattle.names.specs.facts.Kind.{Kind, Named}
use Rattle.names.specs.answers.Name.{named_as}
use Rattle.names.proofs.NameMeans.{named_unique}
use Rattle.tables.specs.facts.Board.{Board, node_count, node_name, parent_word}
use Rattle.tables.specs.facts.Tree.{Child}
use Rattle.wellformed.specs.facts.Rules.{WellFormed}
use Rattle.tables.proofs.DecideLaws.{child_test}
use Rattle.tables.proofs.DepthLaws.{child_unique}
use Rattle.wellformed.proofs.WellFormedLaws.{wf_depth}
use Rattle.tables.specs.answers.Tree.{is_child}
use Rattle.cpumap.specs.facts.Map.{Map, InMap, OfKind, ClusterAbove}
use Rattle.cpumap.specs.answers.Path.{topology_name, cluster_path}
use Rattle.topology.specs.facts.Rules.{TopologyRule, Childless}
use Rattle.cpumap.specs.answers.Number.{kind_number}
use Rattle.topology.specs.answers.Check.{group_fault, depth_fault, shape_fault, map_record_fault}
use Rattle.topology.specs.answers.Siblings.{holds_number, child_count, is_free, number_fault}
use Rattle.topology.proofs.ChildMeans.{children_listing, children_count, has_child_test}
use Rattle.cpumap.proofs.NameFacts.{topology_cases, kinds_apart, numbered_test}
use Rattle.topology.proofs.RuleCases.{deep_cluster, childless}
use Rattle.cpumap.proofs.MapMeans.{in_map_below, map_not_below}
use Rattle.cpumap.proofs.PathMeans.{cluster_list, clusters_listing, depth_below}
use Rattle.topology.proofs.KindMeans.{parent_of, fault_named, kind_tested}

-- rule 23 where a record that must have children has none
pub group_tested :
    (b : Board) (well : WellFormed b) (i : ℕ) → (Childless b i → TopologyRule b 23 i) → Tested 23 (TopologyRule b 23 i) (group_fault b.nodes i)
group_tested b well i breaks =
    tested_unless
    (λ t (r : TopologyRule b 23 i). (childless r).0 t.0 t.1)
    (λ none. breaks (λ j c. none (j, c)))
    (has_child_test b.nodes (wf_depth well) i)

module _
    (b : Board)
    (well : WellFormed b)
    (nameless : (kind : Kind) → OfKind b kind 0 → ⊥)
    (m : ℕ)
    (map : Map b m)
    (i : ℕ)
    (in_map : InMap b i)
  where
    abbrev name : ℕ → TopologyName
    name k = topology_name b.nodes b.pool k

    abbrev over : ℕ
    over = parent_word b.nodes i

    abbrev Rule : ℕ → Type 0
    Rule n = TopologyRule b n i

    child : Child b.nodes over i
    child = parent_of (in_map_below b m map i in_map)

    -- rule 21: an earlier sibling has the number, or there are not more siblings than it says
    abbrev Taken : ℕ → Type 0
    Taken n = (j : ℕ) × (j < i) × (Child b.nodes over j × ((kind : Kind) × Named (node_name b j) kind n))

    abbrev count : ℕ
    count = child_count b.nodes over

    taken_test : (n : ℕ) → Decides (any_below (holds_number b.nodes b.pool over n) i) (Taken n)
    taken_test n =
        any_decides (holds_number b.nodes b.pool over n) i
        (λ j _. then_decides (child_test b.nodes over j) (λ c. numbered_test b well j n c.inside))

    free_test : (n : ℕ) → Decides (is_free b.nodes b.pool over i n) ((Taken n → ⊥) × (n < count))
    unfolding is_free
    free_test n = without_decides (taken_test n) (lt_decides n count)

    number_tested : (kind : Kind) (n : ℕ) → Named (node_name b i) kind n → Tested 21 (Rule 21) (number_fault b.nodes b.pool over i n)
    number_tested kind n named = tested_unless keeps breaks (free_test n)
      where
        keeps : (Taken n → ⊥) × (n < count) → Rule 21 → ⊥
        keeps t (TopologyRule.cpu_map_order_high _ p m _ siblings _ c name l many) =
            let size = children_count b.nodes over siblings (rw (child_unique c child) at l) in
            let same = (named_unique name named).1 in
            omega (arith, t.1)
        keeps t (TopologyRule.cpu_map_order_taken _ j p m _ other _ c d before name earlier) =
            t.0 (j, before, (rw (child_unique c child) at d, (other, rw (named_unique name named).1 at earlier)))

        breaks : ((Taken n → ⊥) × (n < count) → ⊥) → Rule 21
        breaks not_Free = ⊎_elim taken high (lt_or_le n count)
          where
            taken : n < count → Rule 21
            taken lt =
                let t = holds_unless (taken_test n) (λ none. not_Free (none, lt)) in
                TopologyRule.cpu_map_order_taken i t.0 over n kind t.2.1.0 in_map child t.2.0 t.1 named t.2.1.1

            high : count ≤ n → Rule 21
            high le =
                TopologyRule.cpu_map_order_high i over n kind (list_below (is_child b.nodes over) (node_count b.nodes)) in_map child named
                (children_listing b.nodes over) (rw (list_length (is_child b.nodes over) (node_count b.nodes)) le)

    -- rule 22, of a cluster alone
    abbrev above : List ℕ
    above = cluster_list b.nodes b.pool i

    abbrev depth : ℕ
    depth = (cluster_path b.nodes b.pool over).depth

    few : (depth < 4) ↔ (length above ≤ 3)
    few = depth_below b well nameless over i child

    listing : Listing (ClusterAbove b i) above
    listing = clusters_listing b well nameless i

    depth_tested : OfKind b Kind.cluster i → Tested 22 (Rule 22) (depth_fault b.nodes b.pool over)
    unfolding depth_fault
    depth_tested is = tested_unless deep breaks (lt_decides depth 4)
      where
        deep : depth < 4 → Rule 22 → ⊥
        deep lt (TopologyRule.cpu_map_depth _ list _ _ l many) = omega (arith, few.0 lt, rw (listing_unique list above l listing) at many)

        breaks : (depth < 4 → ⊥) → Rule 22
        breaks n = TopologyRule.cpu_map_depth i above in_map is listing (⊎_elim (λ lt. lt) (λ le. absurd (n (few.1 le))) (lt_or_le 3 (length above)))

    not_deep : (OfKind b Kind.cluster i → ⊥) → Tested 22 (Rule 22) 0
    not_deep none = Tested.sound (λ r. none (deep_cluster r))

    not_empty : (OfKind b Kind.socket i → ⊥) → (OfKind b Kind.cluster i → ⊥) → Tested 23 (Rule 23) 0
    not_empty no_socket not_cluster = Tested.sound (λ r. ⊎_elim is_map (⊎_elim no_socket not_cluster) (childless r).1)
      where
        is_map : Map b i → ⊥
        is_map s = map_not_below b i s in_map

    has_name : (kind : Kind) → OfKind b kind i → Rule 19 → ⊥
    has_name kind is (TopologyRule.cpu_map_name _ _ none) = none kind is

    -- rules 22 and 23
    pair : {v w : ℕ} → Tested 22 (Rule 22) v → Tested 23 (Rule 23) w → Least Rule 22 23 (or_number v w)
    pair {v} {w} s t =
        least_then Rule 22 22 23 v w (omega arith) (omega arith) (least_one Rule 22 (omega arith) s) (least_one Rule 23 (omega arith) t)

    apart : (k j : Kind) (n : ℕ) → Named (node_name b i) k n → (kind_number (named_as j 0) ≡ kind_number (named_as k 0) → ⊥) → OfKind b j i → ⊥
    apart k j n q ne t = kinds_apart b i j k ne t (n, q)

    shape_least : (kind : Kind) (n : ℕ) → Named (node_name b i) kind n → Least Rule 22 23 (shape_fault b.nodes b.pool over i (named_as kind n))
    shape_least Kind.socket n q =
        pair (not_deep (apart Kind.socket Kind.cluster n q (λ z. omega arith)))
        (group_tested b well i (TopologyRule.cpu_map_empty_socket i in_map (n, q)))
    shape_least Kind.cluster n q = pair (depth_tested (n, q)) (group_tested b well i (TopologyRule.cpu_map_empty_cluster i in_map (n, q)))
    shape_least Kind.core n q =
        let not_cluster = apart Kind.core Kind.cluster n q (λ z. omega arith) in
        pair (not_deep not_cluster) (not_empty (apart Kind.core Kind.socket n q (λ z. omega arith)) not_cluster)
    shape_least Kind.thread n q =
        let not_cluster = apart Kind.thread Kind.cluster n q (λ z. omega arith) in
        pair (not_deep not_cluster) (not_empty (apart Kind.thread Kind.socket n q (λ z. omega arith)) not_cluster)

    module _ (lower : (k : ℕ) → k < i → InMap b k → map_record_fault b.nodes b.pool m k (name k) ≡ 0) where
      abbrev fault : ℕ
      fault = map_record_fault b.nodes b.pool m i (name i)

      -- the smallest of the five rules
      pub record_told : Least Rule 19 23 fault
      record_told = ⊎_elim named unnamed (topology_cases b well i child.inside)
        where
          other : ((kind : Kind) → OfKind b kind i → ⊥) → Least Rule 19 23 (map_record_fault b.nodes b.pool m i Other)
          other none = unfold map_record_fault in least_low Rule 19 23 (omega arith) (omega arith) (TopologyRule.cpu_map_name i in_map none)

          unnamed : (name i ≡ Other) × ((kind : Kind) → OfKind b kind i → ⊥) → Least Rule 19 23 fault
          unnamed t = rw t.0 (other t.1)

          faults : (kind : Kind) (n : ℕ) → Named (node_name b i) kind n → Least Rule 19 23 (map_record_fault b.nodes b.pool m i (named_as kind n))
          faults kind n q =
              rw (fault_named b well m map i kind n)
              (least_then Rule 19 19 23 0 _ (omega arith) (omega arith) (least_one Rule 19 (omega arith) (Tested.sound (has_name kind (n, q))))
              (least_then Rule 20 20 23 _ _ (omega arith) (omega arith)
              (least_one Rule 20 (omega arith) (kind_tested b well m map i in_map lower kind n q))
              (least_then Rule 21 21 23 _ _ (omega arith) (omega arith)
              (least_one Rule 21 (omega arith) (number_tested kind n q)) (shape_least kind n q))))

          named : (kind : Kind) × (n : ℕ) × (name i ≡ named_as kind n) × Named (node_name b i) kind n → Least Rule 19 23 fault
          named t = rw t.2 (faults t.0 t.1 t.3)
