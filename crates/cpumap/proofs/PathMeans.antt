-- SPDX-License-Identifier: BSD-2-Clause OR GPL-2.0-or-later
-- The clusters above a record, and the path that is computed of them. Assumes well-formed tables, and that record 0 has no topology name.
use mathlib.Core.Path.{◌≡◌, refl, sym, ap, ◌∙◌}
use mathlib.Core.Bool.{true, false, cond}
use mathlib.Core.Logic.{◌⊎◌, inl, inr, ⊎_elim, ◌↔◌}
use mathlib.Core.List.{List, [], ◌∷◌, ◌++◌, map, map-append}
use Prim.Native.Nat.{ℕ, ◌≤◌, ◌<◌, min}
use native.Mathlib.Omega.{arith}
use lib.ListN.{length, take, length-map}
use Rattle.laws.specs.facts.Listing.{Listing}
use Rattle.laws.proofs.SearchLaws.{true_false}
use Rattle.laws.proofs.AppendListingLaws.{listing_same, listing_none, listing_more}
use Rattle.layout.specs.facts.Row.{gap}
use Rattle.names.specs.declared.TopologyName.{TopologyName}
use Rattle.names.specs.declared.TopologyName.TheVariants.{Socket, Cluster, Core, Thread, Other}
use Rattle.names.specs.facts.Kind.{Kind}
use Rattle.tables.specs.facts.Board.{Board, node_count, parent_word}
use Rattle.tables.specs.answers.Tree.{has_parent, climb}
use Rattle.tables.specs.facts.Tree.{Child, Ancestor}
use Rattle.wellformed.specs.facts.Rules.{WellFormed}
use Rattle.tables.proofs.TreeLaws.{climb_none}
use Rattle.tables.proofs.DepthLaws.{ancestor_earlier}
use Rattle.wellformed.proofs.WellFormedLaws.{wf_depth}
use Rattle.cpumap.specs.declared.ClusterPath.{ClusterPath}
use Rattle.cpumap.specs.facts.Map.{OfKind, ClusterAbove}
use Rattle.cpumap.specs.answers.Path.{topology_name, no_clusters, extend, cluster_step, cluster_path}
use Rattle.cpumap.specs.answers.Number.{topology_number}
use Rattle.cpumap.proofs.NameFacts.{Says, topology_says, kinds_apart}
use Rattle.cpumap.proofs.WithinMeans.{Within, parent_induction, within_above, above_within, child_has, climb_child, within_le, top_zero}

-- a is a cluster among record i and its ancestors
pub record ClusterWithin (b : Board) (i a : ℕ) : Type 0 where
  pub within : Within b.nodes i a
  pub is_cluster : OfKind b Kind.cluster a

-- the clusters among record i and its ancestors, outermost first
abbrev add_cluster : TopologyName → ℕ → List ℕ → List ℕ
add_cluster (Socket n) i l = l
add_cluster (Cluster n) i l = l ++ (i ∷ [])
add_cluster (Core n) i l = l
add_cluster (Thread n) i l = l
add_cluster Other i l = l

abbrev cluster_next : List ℕ → List ℕ → ℕ → List ℕ → List ℕ
cluster_next nodes pool i l = add_cluster (topology_name nodes pool i) i l

unfoldable pub clusters_within : List ℕ → List ℕ → ℕ → List ℕ
clusters_within nodes pool i = climb nodes [] (cluster_next nodes pool) i

-- the clusters above record i
unfoldable pub cluster_list : List ℕ → List ℕ → ℕ → List ℕ
cluster_list nodes pool i = cond (has_parent nodes i) (clusters_within nodes pool (parent_word nodes i)) []

-- a path of given numbers, of which the first four are used
unfoldable pub path_of : List ℕ → ClusterPath
path_of l = record { numbers = take 4 (l ++ (gap ∷ gap ∷ gap ∷ gap ∷ [])); depth = min 4 (length l) }

pub extend_path : (l : List ℕ) (n : ℕ) → extend (path_of l) n ≡ path_of (l ++ (n ∷ []))
unfolding extend path_of
extend_path [] n = refl
extend_path (a ∷ []) n = refl
extend_path (a ∷ b ∷ []) n = refl
extend_path (a ∷ b ∷ c ∷ []) n = refl
extend_path (a ∷ b ∷ c ∷ d ∷ l) n = rw (full l, full (l ++ (n ∷ [])))
  where
    full : (s : List ℕ) → min 4 (length (a ∷ b ∷ c ∷ d ∷ s)) ≡ 4
    full s = omega arith

-- the path is that of the clusters' numbers
module _ (nodes pool : List ℕ) where
  abbrev pub number_at : ℕ → ℕ
  number_at i = topology_number (topology_name nodes pool i)

  pub path_is : (i : ℕ) → cluster_path nodes pool i ≡ path_of (map number_at (clusters_within nodes pool i))
  unfolding cluster_path clusters_within
  path_is = parent_induction (λ (i : ℕ). climb nodes no_clusters step i ≡ path_of (map number_at (climb nodes [] (cluster_next nodes pool) i))) top more
    where
      step : ℕ → ClusterPath → ClusterPath
      step j path = cluster_step (topology_name nodes pool j) path

      empty : no_clusters ≡ path_of []
      empty = unfold path_of in refl

      top : (i : ℕ) → has_parent nodes i ≡ false → climb nodes no_clusters step i ≡ path_of (map number_at (climb nodes [] (cluster_next nodes pool) i))
      top i e = rw (← climb_none nodes no_clusters step i e, ← climb_none nodes [] (cluster_next nodes pool) i e) empty

      one :
          (x : TopologyName) (i : ℕ) (l : List ℕ) →
          topology_name nodes pool i ≡ x →
          cluster_step x (path_of (map number_at l)) ≡ path_of (map number_at (add_cluster x i l))
      one (Socket n) i l e = refl
      one (Cluster n) i l e = extend_path (map number_at l) n ∙ ap path_of (sym (map-append number_at l (i ∷ []) ∙ rw e))
      one (Core n) i l e = refl
      one (Thread n) i l e = refl
      one Other i l e = refl

      more :
          (p i : ℕ) →
          Child nodes p i →
          climb nodes no_clusters step p ≡ path_of (map number_at (climb nodes [] (cluster_next nodes pool) p)) →
          climb nodes no_clusters step i ≡ path_of (map number_at (climb nodes [] (cluster_next nodes pool) i))
      more p i c ih = rw (climb_child no_clusters step c, climb_child [] (cluster_next nodes pool) c, ih) (one (topology_name nodes pool i) i _ refl)

module _ (b : Board) (well : WellFormed b) (nameless : (kind : Kind) → OfKind b kind 0 → ⊥) where
  abbrev next : ℕ → List ℕ → List ℕ
  next = cluster_next b.nodes b.pool

  -- the clusters of a child are those of its parent, and itself where it is one
  child_listing :
      {x : TopologyName} (p i : ℕ) (l : List ℕ) →
      Child b.nodes p i →
      Says b i x →
      Listing (ClusterWithin b p) l →
      Listing (ClusterWithin b i) (add_cluster x i l)
  child_listing p i l c s h = go s
    where
      up : (a : ℕ) → ClusterWithin b p a → ClusterWithin b i a
      up a t = record { within = inr (within_above c t.within); is_cluster = t.is_cluster }

      down : (a : ℕ) → ClusterWithin b i a → (a ≡ i) ⊎ ClusterWithin b p a
      down a t = ⊎_elim inl (λ s. inr (record { within = above_within c s; is_cluster = t.is_cluster })) t.within

      same : (OfKind b Kind.cluster i → ⊥) → Listing (ClusterWithin b i) l
      same not_cluster = listing_same up (λ a t. ⊎_elim (λ e. absurd (not_cluster (rw e at t.is_cluster))) (λ r. r) (down a t)) h

      go : {x : TopologyName} → Says b i x → Listing (ClusterWithin b i) (add_cluster x i l)
      go (Says.socket n q) = same (λ t. kinds_apart b i Kind.cluster Kind.socket (λ z. omega arith) t (n, q))
      go (Says.cluster n q) =
          listing_same (λ a. ⊎_elim (λ e. record { within = inl e; is_cluster = rw e (n, q) }) (up a)) down
          (listing_more l i (λ a t. let le = within_le t.within in omega (arith, c.earlier)) h)
      go (Says.core n q) = same (λ t. kinds_apart b i Kind.cluster Kind.core (λ z. omega arith) t (n, q))
      go (Says.thread n q) = same (λ t. kinds_apart b i Kind.cluster Kind.thread (λ z. omega arith) t (n, q))
      go (Says.other none) = same (none Kind.cluster)

  pub within_listing : (i : ℕ) → i < node_count b.nodes → Listing (ClusterWithin b i) (clusters_within b.nodes b.pool i)
  unfolding clusters_within
  within_listing = parent_induction (λ (i : ℕ). i < node_count b.nodes → Listing (ClusterWithin b i) (climb b.nodes [] next i)) top more
    where
      root : (a : ℕ) → ClusterWithin b 0 a → ⊥
      root a t = ⊎_elim (λ e. nameless Kind.cluster (rw e at t.is_cluster)) (λ s. let l = ancestor_earlier s in omega arith) t.within

      top : (i : ℕ) → has_parent b.nodes i ≡ false → i < node_count b.nodes → Listing (ClusterWithin b i) (climb b.nodes [] next i)
      top i e lt = rw (← climb_none b.nodes [] next i e, top_zero (wf_depth well) i lt e) (listing_none root)

      more :
          (p i : ℕ) →
          Child b.nodes p i →
          (p < node_count b.nodes → Listing (ClusterWithin b p) (climb b.nodes [] next p)) →
          i < node_count b.nodes →
          Listing (ClusterWithin b i) (climb b.nodes [] next i)
      more p i c ih lt = rw (climb_child [] next c) (child_listing p i _ c (topology_says b well i lt) (ih (omega (arith, c.earlier))))

  -- the clusters above a record
  pub list_child : (p i : ℕ) → Child b.nodes p i → cluster_list b.nodes b.pool i ≡ clusters_within b.nodes b.pool p
  unfolding cluster_list
  list_child p i c = rw (child_has c, c.word)

  above_listing : (p i : ℕ) → Child b.nodes p i → Listing (ClusterAbove b i) (clusters_within b.nodes b.pool p)
  above_listing p i c =
      listing_same
      (λ a t. record { ancestor = within_above c t.within; is_cluster = t.is_cluster })
      (λ a t. record { within = above_within c t.ancestor; is_cluster = t.is_cluster })
      (within_listing p (omega (arith, c.earlier, c.inside)))

  pub clusters_listing : (i : ℕ) → Listing (ClusterAbove b i) (cluster_list b.nodes b.pool i)
  clusters_listing =
      parent_induction (λ (i : ℕ). Listing (ClusterAbove b i) (cluster_list b.nodes b.pool i)) top
      (λ p i c _. rw (list_child p i c) (above_listing p i c))
    where
      has_of : {a i : ℕ} → Ancestor b.nodes a i → has_parent b.nodes i ≡ true
      has_of (Ancestor.parent c) = child_has c
      has_of (Ancestor.above c _) = child_has c

      top : (i : ℕ) → has_parent b.nodes i ≡ false → Listing (ClusterAbove b i) (cluster_list b.nodes b.pool i)
      top i e = unfold cluster_list in rw e (listing_none (λ a t. true_false (has_of t.ancestor) e))

  -- how deep the path of a record is
  pub path_depth : (i : ℕ) → (cluster_path b.nodes b.pool i).depth ≡ min 4 (length (clusters_within b.nodes b.pool i))
  unfolding path_of
  path_depth i = rw (path_is b.nodes b.pool i, length-map (clusters_within b.nodes b.pool i) (number_at b.nodes b.pool))

  pub depth_below :
      (p i : ℕ) → Child b.nodes p i → ((cluster_path b.nodes b.pool p).depth < 4) ↔ (length (cluster_list b.nodes b.pool i) ≤ 3)
  depth_below p i c = let d = path_depth p in let l = ap length (list_child p i c) in (λ h. omega arith, λ h. omega arith)
