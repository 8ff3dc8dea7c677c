-- SPDX-License-Identifier: BSD-2-Clause OR GPL-2.0-or-later
-- Rule 20 at one record: the kinds allowed under its parent, and the first child's kind. Assumes well-formed tables and sound earlier records.
use mathlib.Core.Path.{◌≡◌, refl, sym, ap, ◌∙◌}
use mathlib.Core.Bool.{Bool, true, cond}
use mathlib.Core.Logic.{◌⊎◌, inl, inr, ⊎_elim}
use mathlib.Core.List.{List}
use Prim.Native.Nat.{ℕ, suc, ◌+◌, ◌<◌}
use native.Mathlib.Nat.{eq-or-lt_of_le}
use native.Mathlib.Numerals.{add-one}
use native.Mathlib.Omega.{arith}
use lib.Dec.{eqb}
use borrow.Author.Tests.{ne_eqb}
use Rattle.laws.specs.answers.Fault.{or_number}
use Rattle.laws.proofs.SearchLaws.{true_false}
use Rattle.laws.proofs.FaultLaws.{or_number_zero}
use Rattle.laws.proofs.LeastLaws.{Tested}
use Rattle.laws.proofs.DecideLaws.{Decides, eq_decides}
use Rattle.laws.proofs.TestedLaws.{Decided, decide_cases, tested_unless}
use Rattle.names.specs.declared.TopologyName.{TopologyName}
use Rattle.names.specs.declared.TopologyName.TheVariants.{Other}
use Rattle.names.specs.facts.Kind.{Kind, Named}
use Rattle.names.specs.answers.Name.{named_as}
use Rattle.tables.specs.facts.Board.{Board, node_count, node_name, parent_word}
use Rattle.tables.specs.facts.Tree.{Child, Ancestor}
use Rattle.wellformed.specs.facts.Rules.{WellFormed}
use Rattle.tables.proofs.DepthLaws.{child_unique, first_child}
use Rattle.tables.proofs.TreeLaws.{the_parent}
use Rattle.wellformed.proofs.WellFormedLaws.{wf_depth}
use Rattle.cpumap.specs.facts.Map.{Map, InMap, OfKind}
use Rattle.cpumap.specs.answers.Path.{topology_name}
use Rattle.topology.specs.facts.Rules.{TopologyRule, Allowed, FirstChild}
use Rattle.cpumap.specs.answers.Number.{kind_number}
use Rattle.topology.specs.answers.Check.{allowed_under, allowed_in_map, kind_fault, shape_fault, map_record_fault}
use Rattle.topology.specs.answers.Siblings.{number_fault}
use Rattle.cpumap.proofs.NameFacts.{Says, topology_says, topology_is, topology_cases, is_unique, kinds_apart, number_answered}
use Rattle.cpumap.proofs.NameFacts.{kind_number_same, kind_number_of, kind_number_some, map_nameless}
use Rattle.cpumap.proofs.MapMeans.{map_unique, in_map_below}
use Rattle.cpumap.proofs.WithinMeans.{child_has, within_above, above_within}

module _ (b : Board) (p : ℕ) where
  -- kinds allowed under the map
  in_map_allowed : Map b p → (kind : Kind) (n : ℕ) → Decides (allowed_in_map (named_as kind n)) (Allowed b p kind)
  in_map_allowed map Kind.socket n = (λ _. Allowed.map_socket map, λ _. refl)
  in_map_allowed map Kind.cluster n = (λ _. Allowed.map_cluster map, λ _. refl)
  in_map_allowed map Kind.core n = (λ e. true_false e refl, λ a. absurd (none a))
    where
      none : Allowed b p Kind.core → ⊥
      none (Allowed.cluster_core is) = map_nameless b p map.name Kind.cluster is
  in_map_allowed map Kind.thread n = (λ e. true_false e refl, λ a. absurd (none a))
    where
      none : Allowed b p Kind.thread → ⊥
      none (Allowed.core_thread is) = map_nameless b p map.name Kind.core is

  -- kinds allowed under another record
  under_allowed : {x : TopologyName} → Says b p x → (kind : Kind) (n : ℕ) → allowed_under x (named_as kind n) ≡ true → Allowed b p kind
  under_allowed (Says.socket s q) Kind.socket n e = true_false e refl
  under_allowed (Says.socket s q) Kind.cluster n e = Allowed.socket_cluster (s, q)
  under_allowed (Says.socket s q) Kind.core n e = true_false e refl
  under_allowed (Says.socket s q) Kind.thread n e = true_false e refl
  under_allowed (Says.cluster s q) Kind.socket n e = true_false e refl
  under_allowed (Says.cluster s q) Kind.cluster n e = Allowed.cluster_cluster (s, q)
  under_allowed (Says.cluster s q) Kind.core n e = Allowed.cluster_core (s, q)
  under_allowed (Says.cluster s q) Kind.thread n e = true_false e refl
  under_allowed (Says.core s q) Kind.socket n e = true_false e refl
  under_allowed (Says.core s q) Kind.cluster n e = true_false e refl
  under_allowed (Says.core s q) Kind.core n e = true_false e refl
  under_allowed (Says.core s q) Kind.thread n e = Allowed.core_thread (s, q)
  under_allowed (Says.thread s q) kind n e = true_false e refl
  under_allowed (Says.other none) kind n e = true_false e refl

  -- under a socket or a core one kind alone is allowed
  abbrev Mixing : Type 0
  Mixing = Map b p ⊎ OfKind b Kind.cluster p

  under_socket : {j : Kind} → OfKind b Kind.socket p → Allowed b p j → (Kind.cluster ≡ j) ⊎ Mixing
  under_socket is (Allowed.map_socket map) = inr (inl map)
  under_socket is (Allowed.map_cluster map) = inr (inl map)
  under_socket is (Allowed.socket_cluster _) = inl refl
  under_socket is (Allowed.cluster_cluster other) = inr (inr other)
  under_socket is (Allowed.cluster_core other) = inr (inr other)
  under_socket is (Allowed.core_thread other) = absurd (kinds_apart b p Kind.socket Kind.core (λ z. omega arith) is other)

  under_core : {j : Kind} → OfKind b Kind.core p → Allowed b p j → (Kind.thread ≡ j) ⊎ Mixing
  under_core is (Allowed.map_socket map) = inr (inl map)
  under_core is (Allowed.map_cluster map) = inr (inl map)
  under_core is (Allowed.socket_cluster other) = absurd (kinds_apart b p Kind.core Kind.socket (λ z. omega arith) is other)
  under_core is (Allowed.cluster_cluster other) = inr (inr other)
  under_core is (Allowed.cluster_core other) = inr (inr other)
  under_core is (Allowed.core_thread _) = inl refl

  allowed_mix : {k j : Kind} → Allowed b p k → Allowed b p j → (k ≡ j) ⊎ Mixing
  allowed_mix (Allowed.map_socket map) other = inr (inl map)
  allowed_mix (Allowed.map_cluster map) other = inr (inl map)
  allowed_mix (Allowed.socket_cluster is) other = under_socket is other
  allowed_mix (Allowed.cluster_cluster is) other = inr (inr is)
  allowed_mix (Allowed.cluster_core is) other = inr (inr is)
  allowed_mix (Allowed.core_thread is) other = under_core is other

-- the parent of a record below another
pub parent_of : {nodes : List ℕ} {a i : ℕ} → Ancestor nodes a i → Child nodes (parent_word nodes i) i
parent_of {nodes} {a} {i} (Ancestor.parent c) = the_parent nodes i (child_has c)
parent_of {nodes} {a} {i} (Ancestor.above c _) = the_parent nodes i (child_has c)

module _ (b : Board) (well : WellFormed b) (m : ℕ) (map : Map b m) where
  abbrev name : ℕ → TopologyName
  name i = topology_name b.nodes b.pool i

  abbrev is_allowed : ℕ → TopologyName → Bool
  is_allowed p x = cond (eqb p m) (allowed_in_map x) (allowed_under (name p) x)

  allowed_under_lem :
      (p : ℕ) (kind : Kind) (n : ℕ) → p < node_count b.nodes → (Map b p → ⊥) → Allowed b p kind → allowed_under (name p) (named_as kind n) ≡ true
  allowed_under_lem p kind n lt none (Allowed.map_socket s) = absurd (none s)
  allowed_under_lem p kind n lt none (Allowed.map_cluster s) = absurd (none s)
  allowed_under_lem p kind n lt none (Allowed.socket_cluster is) = rw ((topology_is b well p Kind.socket is.0 lt).1 is.1)
  allowed_under_lem p kind n lt none (Allowed.cluster_cluster is) = rw ((topology_is b well p Kind.cluster is.0 lt).1 is.1)
  allowed_under_lem p kind n lt none (Allowed.cluster_core is) = rw ((topology_is b well p Kind.cluster is.0 lt).1 is.1)
  allowed_under_lem p kind n lt none (Allowed.core_thread is) = rw ((topology_is b well p Kind.core is.0 lt).1 is.1)

  pub allowed_test : (p : ℕ) (kind : Kind) (n : ℕ) → p < node_count b.nodes → Decides (is_allowed p (named_as kind n)) (Allowed b p kind)
  allowed_test p kind n lt = go (decide_cases (eq_decides p m))
    where
      go :
          {t : Bool} →
          Decided (p ≡ m) t →
          Decides (cond t (allowed_in_map (named_as kind n)) (allowed_under (name p) (named_as kind n))) (Allowed b p kind)
      go (Decided.holds e) = in_map_allowed b p (rw e map) kind n
      go (Decided.fails ne) = (
        under_allowed b p (topology_says b well p lt) kind n,
        allowed_under_lem p kind n lt (λ s. ne (map_unique b p m s map)),
      )

  -- the number told of a record with a topology name
  pub fault_named :
      (i : ℕ) (kind : Kind) (n : ℕ) →
      let p = parent_word b.nodes i in
      map_record_fault b.nodes b.pool m i (named_as kind n)
      ≡ or_number (kind_fault b.nodes b.pool m p (named_as kind n))
      (or_number (number_fault b.nodes b.pool p i n) (shape_fault b.nodes b.pool p i (named_as kind n)))
  unfolding map_record_fault
  fault_named i kind n = rw (ne_eqb (kind_number (named_as kind n)) 0 (kind_number_some kind n), number_answered kind n)

  -- a sound record has a kind that is allowed under its parent
  abbrev Placed : ℕ → Type 0
  Placed i = (kind : Kind) × (n : ℕ) × Named (node_name b i) kind n × Allowed b (parent_word b.nodes i) kind

  kind_sound : (p : ℕ) (kind : Kind) (n : ℕ) → p < node_count b.nodes → kind_fault b.nodes b.pool m p (named_as kind n) ≡ 0 → Allowed b p kind
  unfolding kind_fault
  kind_sound p kind n lt = go (decide_cases (allowed_test p kind n lt))
    where
      go :
          {t : Bool} →
          Decided (Allowed b p kind) t →
          ◌≡◌ {A = ℕ} (cond t (cond (eqb (kind_number (named_as kind n)) (kind_number (name (p + 1)))) 0 20) 20) 0 →
          Allowed b p kind
      go (Decided.holds a) z = a
      go (Decided.fails _) z = absurd (omega arith)

  pub sound_placed : (i : ℕ) → Child b.nodes (parent_word b.nodes i) i → map_record_fault b.nodes b.pool m i (name i) ≡ 0 → Placed i
  sound_placed i c z = ⊎_elim named unnamed (topology_cases b well i c.inside)
    where
      other : map_record_fault b.nodes b.pool m i Other ≡ 0 → ⊥
      other = unfold map_record_fault in λ e. omega arith

      unnamed : (name i ≡ Other) × ((kind : Kind) → OfKind b kind i → ⊥) → Placed i
      unnamed t = absurd (other (rw t.0 at z))

      named : (kind : Kind) × (n : ℕ) × (name i ≡ named_as kind n) × Named (node_name b i) kind n → Placed i
      named t =
          let faults = or_number_zero _ _ (sym (fault_named i t.0 t.1) ∙ (rw t.2 at z)) in
          (t.0, t.1, t.3, kind_sound (parent_word b.nodes i) t.0 t.1 (omega (arith, c.earlier, c.inside)) faults.0)

  -- rule 20 at record i, below which no record of the map is broken
  module _ (i : ℕ) (in_map : InMap b i) (lower : (k : ℕ) → k < i → InMap b k → map_record_fault b.nodes b.pool m k (name k) ≡ 0) where
    abbrev over : ℕ
    over = parent_word b.nodes i

    child : Child b.nodes over i
    child = parent_of (in_map_below b m map i in_map)

    over_inside : over < node_count b.nodes
    over_inside = omega (arith, child.earlier, child.inside)

    -- the first child of the parent is the record itself, or an earlier one and so sound
    next : Child b.nodes over (suc over)
    next = first_child (wf_depth well) child

    first : FirstChild b over (suc over)
    first = record { child = next; lowest = λ j c. c.earlier }

    first_placed : (suc over ≡ i) ⊎ ((kind : Kind) × (n : ℕ) × Named (node_name b (suc over)) kind n × Allowed b over kind)
    first_placed = ⊎_elim inl (λ lt. inr (earlier lt)) (eq-or-lt_of_le child.earlier)
      where
        below : Ancestor b.nodes m (suc over)
        below = within_above next (above_within child (in_map_below b m map i in_map))

        earlier : suc over < i → (kind : Kind) × (n : ℕ) × Named (node_name b (suc over)) kind n × Allowed b over kind
        earlier lt =
            let t = sound_placed (suc over) (parent_of below) (lower (suc over) lt (record { root = m; is_map = map; below = below })) in
            (t.0, t.1, t.2, rw next.word at t.3)

    module _ (kind : Kind) (n : ℕ) (named : Named (node_name b i) kind n) (allowed : Allowed b over kind) where
      abbrev SameKind : Type 0
      SameKind = kind_number (named_as kind n) ≡ kind_number (name (over + 1))

      -- the kind of the first child
      first_kind : (j : Kind) (k : ℕ) → Named (node_name b (suc over)) j k → kind_number (name (over + 1)) ≡ kind_number (named_as j k)
      first_kind j k q = rw (add-one over, (topology_is b well (suc over) j k next.inside).1 q)

      mixed_broken : (SameKind → ⊥) → TopologyRule b 20 i
      mixed_broken ne = ⊎_elim (λ e. absurd (ne (sym (first_kind kind n (rw e named))))) other first_placed
        where
          other : (j : Kind) × (k : ℕ) × Named (node_name b (suc over)) j k × Allowed b over j → TopologyRule b 20 i
          other t =
              ⊎_elim (λ e. absurd (apart e))
              (λ mixing. TopologyRule.cpu_map_kind_mixed i over (suc over) kind t.0 in_map mixing child first (n, named) (t.1, t.2) apart)
              (allowed_mix b over allowed t.3)
            where
              apart : kind ≡ t.0 → ⊥
              apart e = ne (kind_number_of kind n t.1 ∙ ap (λ (j : Kind). kind_number (named_as j t.1)) e ∙ sym (first_kind t.0 t.1 t.2))

      mixed_sound : SameKind → TopologyRule b 20 i → ⊥
      mixed_sound same (TopologyRule.cpu_map_kind _ p k _ c is none) = none (rw (child_unique child c, is_unique b i kind k (n, named) is) at allowed)
      mixed_sound same (TopologyRule.cpu_map_kind_mixed _ p f k j _ _ c fc is fis ne) =
          let le = fc.lowest (suc over) (rw (child_unique c child) next) in
          let lt = fc.child.earlier in
          let e = child_unique c child in
          let place : f ≡ suc over = omega arith in
          ne (is_unique b i k kind is (n, named) ∙ kind_number_same kind j n fis.0 (same ∙ first_kind j fis.0 (rw place at fis.1)))

    pub kind_tested :
        (kind : Kind) (n : ℕ) → Named (node_name b i) kind n → Tested 20 (TopologyRule b 20 i) (kind_fault b.nodes b.pool m over (named_as kind n))
    unfolding kind_fault
    kind_tested kind n named = go (decide_cases (allowed_test over kind n over_inside))
      where
        go :
            {t : Bool} →
            Decided (Allowed b over kind) t →
            Tested 20 (TopologyRule b 20 i) (cond t (cond (eqb (kind_number (named_as kind n)) (kind_number (name (over + 1)))) 0 20) 20)
        go (Decided.holds allowed) =
            tested_unless (mixed_sound kind n named allowed) (mixed_broken kind n named allowed)
            (eq_decides (kind_number (named_as kind n)) (kind_number (name (over + 1))))
        go (Decided.fails n_a) = Tested.broken (TopologyRule.cpu_map_kind i over kind in_map child (n, named) n_a)
