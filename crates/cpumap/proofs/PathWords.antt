-- SPDX-License-Identifier: BSD-2-Clause OR GPL-2.0-or-later
-- The words of a record's path: the number of its cluster with so many clusters above it.
-- Assumes well-formed tables, and that record 0 has no topology name.
use mathlib.Core.Path.{◌≡◌, refl, sym, ap, ◌∙◌}
use mathlib.Core.Logic.{inr, ⊎_elim}
use mathlib.Core.List.{List, [], ◌∷◌, ◌++◌, map}
use Prim.Native.Nat.{ℕ, zero, suc, ◌+◌, ◌-◌, ◌≤◌, ◌<◌}
use native.Mathlib.Omega.{arith}
use lib.ListN.{length, get_or, take, replicate, length-map, get_or-replicate, get_or-append}
use lib.Seq.{get_or-take, get_or-append-add, length-take-le}
use Rattle.laws.specs.facts.Listing.{Member, Listing}
use Rattle.laws.proofs.SearchLaws.{lt_or_le}
use Rattle.laws.proofs.ListingLaws.{listing_unique}
use Rattle.laws.proofs.AppendListingLaws.{listing_same, listing_take}
use Rattle.layout.specs.facts.Row.{gap}
use Rattle.names.specs.facts.Kind.{Kind, Named}
use Rattle.tables.specs.facts.Board.{Board, node_count, node_name}
use Rattle.wellformed.specs.facts.Rules.{WellFormed}
use Rattle.tables.proofs.DepthLaws.{ancestor_earlier}
use Rattle.cpumap.specs.declared.ClusterPath.{ClusterPath}
use Rattle.cpumap.specs.facts.Map.{OfKind, ClusterAbove}
use Rattle.cpumap.specs.answers.Path.{cluster_path}
use Rattle.cpumap.specs.answers.Number.{topology_number}
use Rattle.cpumap.proofs.NameFacts.{topology_is}
use Rattle.cpumap.proofs.WithinMeans.{within_trans, within_order, within_le}
use Rattle.cpumap.proofs.PathMeans.{ClusterWithin, clusters_within, path_of, number_at, path_is, within_listing}

-- the words of a path
pub path_at : (l : List ℕ) (k : ℕ) → k < 4 → k < length l → get_or (path_of l).numbers k 0 ≡ get_or l k 0
unfolding path_of
path_at l k lt in_k = get_or-take 4 (l ++ (gap ∷ gap ∷ gap ∷ gap ∷ [])) k 0 lt ∙ get_or-append l (gap ∷ gap ∷ gap ∷ gap ∷ []) 0 k in_k

pub path_gap : (l : List ℕ) (k : ℕ) → k < 4 → length l ≤ k → get_or (path_of l).numbers k 0 ≡ gap
unfolding path_of
path_gap l k lt out =
    let e : k ≡ length l + (k - length l) = omega arith in
    get_or-take 4 (l ++ replicate 4 gap) k 0 lt
    ∙ ap (λ (j : ℕ). get_or (l ++ replicate 4 gap) j 0) e
    ∙ get_or-append-add l (replicate 4 gap) (k - length l) 0
    ∙ get_or-replicate 4 (k - length l) gap 0 (omega arith)

-- a list of values, at a place
map_at : (f : ℕ → ℕ) (l : List ℕ) (k : ℕ) → k < length l → get_or (map f l) k 0 ≡ f (get_or l k 0)
map_at f [] k lt = absurd (omega arith)
map_at f (x ∷ l) zero lt = refl
map_at f (x ∷ l) (suc k) lt = map_at f l k (omega arith)

-- the number that a path has at place d: that of the cluster among record i and its ancestors with d clusters above it, or GAP
pub data PathWord (b : Board) (i d : ℕ) : ℕ → Type 0 where
  in_cluster :
      (c n : ℕ) (above : List ℕ) →
      ClusterWithin b i c →
      Named (node_name b c) Kind.cluster n →
      Listing (ClusterAbove b c) above →
      length above ≡ d →
      PathWord b i d n
  no_cluster :
      ((c : ℕ) (above : List ℕ) → ClusterWithin b i c → Listing (ClusterAbove b c) above → length above ≡ d → ⊥) →
      PathWord b i d gap

-- of a record that is no cluster, the clusters are those above it
module _ (b : Board) (i : ℕ) (not_cluster : OfKind b Kind.cluster i → ⊥) where
  pub cluster_above : (c : ℕ) → ClusterWithin b i c → ClusterAbove b i c
  cluster_above c t =
      record { ancestor = ⊎_elim (λ e. absurd (not_cluster (rw e at t.is_cluster))) (λ s. s) t.within; is_cluster = t.is_cluster }

  pub above_cluster : (c : ℕ) → ClusterAbove b i c → ClusterWithin b i c
  above_cluster c t = record { within = inr t.ancestor; is_cluster = t.is_cluster }

module _ (b : Board) (well : WellFormed b) (nameless : (kind : Kind) → OfKind b kind 0 → ⊥) (i : ℕ) (inside : i < node_count b.nodes) where
  abbrev list : List ℕ
  list = clusters_within b.nodes b.pool i

  abbrev words : List ℕ
  words = (cluster_path b.nodes b.pool i).numbers

  listing : Listing (ClusterWithin b i) list
  listing = within_listing b well nameless i inside

  -- the clusters above the one at place k are the k before it
  above_at : (k : ℕ) → k < length list → Listing (ClusterAbove b (get_or list k 0)) (take k list)
  above_at k lt =
      listing_same
      (λ a t. record { ancestor = within_order t.0.within at.within t.1; is_cluster = t.0.is_cluster })
      (λ a t. (record { within = within_trans t.ancestor at.within; is_cluster = t.is_cluster }, ancestor_earlier t.ancestor))
      (listing_take list k lt listing)
    where
      at : ClusterWithin b i (get_or list k 0)
      at = listing.only k lt

  -- so a cluster stands at the place that is the count of those above it
  place_of :
      (c : ℕ) (above : List ℕ) →
      ClusterWithin b i c →
      Listing (ClusterAbove b c) above →
      (length above < length list) × (get_or list (length above) 0 ≡ c)
  place_of c above t h = go (listing.all c t)
    where
      go : Member list c → (length above < length list) × (get_or list (length above) 0 ≡ c)
      go m =
          let same = listing_unique (take m.index list) above (above_at m.index m.inside) (rw m.here h) in
          let size : m.index ≡ length above = sym (length-take-le m.index list (omega (arith, m.inside))) ∙ ap length same in
          (rw size at m.inside, ap (λ (k : ℕ). get_or list k 0) (sym size) ∙ m.here)

  -- the words at the places of the list, and behind them
  abbrev numbers : List ℕ
  numbers = map (number_at b.nodes b.pool) list

  word_is : (d : ℕ) → get_or words d 0 ≡ get_or (path_of numbers).numbers d 0
  word_is d = ap (λ (p : ClusterPath). get_or p.numbers d 0) (path_is b.nodes b.pool i)

  size : length numbers ≡ length list
  size = length-map list (number_at b.nodes b.pool)

  word_at : (d n : ℕ) → d < 4 → d < length list → Named (node_name b (get_or list d 0)) Kind.cluster n → get_or words d 0 ≡ n
  word_at d n lt in_d name =
      let le = within_le (listing.only d in_d).within in
      word_is d ∙ path_at numbers d lt (rw size in_d)
      ∙ map_at (number_at b.nodes b.pool) list d in_d
      ∙ ap topology_number ((topology_is b well (get_or list d 0) Kind.cluster n (omega arith)).1 name)

  word_gap : (d : ℕ) → d < 4 → length list ≤ d → get_or words d 0 ≡ gap
  word_gap d lt out = word_is d ∙ path_gap numbers d lt (rw size out)

  pub path_word : (d : ℕ) → d < 4 → PathWord b i d (get_or words d 0)
  path_word d lt = ⊎_elim used unused (lt_or_le d (length list))
    where
      used : d < length list → PathWord b i d (get_or words d 0)
      used in_d =
          let c = listing.only d in_d in
          let n = c.is_cluster.0 in
          rw (word_at d n lt in_d c.is_cluster.1)
          (PathWord.in_cluster (get_or list d 0) n (take d list) c c.is_cluster.1 (above_at d in_d) (length-take-le d list (omega arith)))

      unused : length list ≤ d → PathWord b i d (get_or words d 0)
      unused out = rw (word_gap d lt out) (PathWord.no_cluster (λ c above t h e. omega (arith, (place_of c above t h).0)))

  -- .. and no other number is the word
  pub path_word_only : (d v : ℕ) → d < 4 → PathWord b i d v → v ≡ get_or words d 0
  path_word_only d v lt w = go w
    where
      at :
          (c n : ℕ) (above : List ℕ) →
          ClusterWithin b i c →
          Named (node_name b c) Kind.cluster n →
          Listing (ClusterAbove b c) above →
          length above ≡ d →
          n ≡ get_or words d 0
      at c n above t name h e =
          let p = place_of c above t h in
          let in_d : d < length list = omega (arith, p.0) in
          let here : get_or list d 0 ≡ c = ap (λ (k : ℕ). get_or list k 0) (sym e) ∙ p.1 in
          sym (word_at d n lt in_d (rw here name))

      none : ((c : ℕ) (above : List ℕ) → ClusterWithin b i c → Listing (ClusterAbove b c) above → length above ≡ d → ⊥) → gap ≡ get_or words d 0
      none n =
          ⊎_elim
          (λ in_d. absurd (n (get_or list d 0) (take d list) (listing.only d in_d) (above_at d in_d) (length-take-le d list (omega arith))))
          (λ out. sym (word_gap d lt out))
          (lt_or_le d (length list))

      go : {v : ℕ} → PathWord b i d v → v ≡ get_or words d 0
      go (PathWord.in_cluster c n above t name h e) = at c n above t name h e
      go (PathWord.no_cluster n) = none n
