-- SPDX-License-Identifier: BSD-2-Clause OR GPL-2.0-or-later
-- The shape of an accepted map: the kind of each record below it, and of the record's parent. Assumes nothing.
use mathlib.Core.Path.{◌≡◌}
use mathlib.Core.Logic.{◌⊎◌, inl, inr, ⊎_elim}
use Prim.Native.Nat.{ℕ}
use native.Mathlib.Omega.{arith}
use Rattle.laws.proofs.DecideLaws.{decided}
use Rattle.names.specs.facts.Kind.{Kind}
use Rattle.tables.specs.facts.Board.{Board, parent_word}
use Rattle.tables.specs.facts.Tree.{Child, Ancestor}
use Rattle.wellformed.specs.facts.Rules.{WellFormed}
use Rattle.tables.proofs.DepthLaws.{ancestor_earlier, ancestor_cases, ancestor_chain}
use Rattle.cpus.specs.facts.Rules.{SoundCpus}
use Rattle.cpumap.specs.facts.Map.{Map, InMap, OfKind}
use Rattle.topology.specs.facts.Rules.{TopologyRule, SoundTopology, Allowed}
use Rattle.cpumap.proofs.NameFacts.{root_nameless, map_nameless}
use Rattle.cpumap.proofs.MapMeans.{map_unique}
use Rattle.topology.proofs.KindMeans.{parent_of, allowed_test}

-- what the parent of a record of a kind is
abbrev pub Under : Board → ℕ → Kind → Type 0
Under b p Kind.socket = Map b p
Under b p Kind.cluster = Map b p ⊎ (OfKind b Kind.socket p ⊎ OfKind b Kind.cluster p)
Under b p Kind.core = OfKind b Kind.cluster p
Under b p Kind.thread = OfKind b Kind.core p

under : {b : Board} {p : ℕ} {kind : Kind} → Allowed b p kind → Under b p kind
under (Allowed.map_socket m) = m
under (Allowed.map_cluster m) = inl m
under (Allowed.socket_cluster s) = inr (inl s)
under (Allowed.cluster_cluster s) = inr (inr s)
under (Allowed.cluster_core s) = s
under (Allowed.core_thread s) = s

module _ (b : Board) (well : WellFormed b) (m : ℕ) (the_map : Map b m) (sound : SoundCpus b) (kept : SoundTopology b) where
  -- the parent of a thread is a core, of a core a cluster, of a socket the map, of a cluster the map, a socket or a cluster
  pub parent_kind : (i p : ℕ) (kind : Kind) → InMap b i → Child b.nodes p i → OfKind b kind i → Under b p kind
  parent_kind i p kind h c s =
      ⊎_elim
      under
      (λ n. absurd (kept 20 i (TopologyRule.cpu_map_kind i p kind h c s n)))
      (decided (allowed_test b well m the_map p kind 0 (omega (arith, c.earlier, c.inside))))

  -- an ancestor with a kind is itself below the map
  pub ancestor_in_map : (a i : ℕ) (kind : Kind) → InMap b i → Ancestor b.nodes a i → OfKind b kind a → InMap b a
  ancestor_in_map a i kind h t s =
      ⊎_elim
      (λ e. absurd (not_map e))
      (⊎_elim (λ u. absurd (not_above u)) (λ u. record { root = h.root; is_map = h.is_map; below = u }))
      (ancestor_chain t h.below)
    where
      not_map : a ≡ h.root → ⊥
      not_map e = map_nameless b a (rw e h.is_map.name) kind s

      not_above : Ancestor b.nodes a h.root → ⊥
      not_above u =
          ⊎_elim
          (λ e. root_nameless b sound kind (rw e at s))
          (λ v. let l = ancestor_earlier v in absurd (omega arith))
          (ancestor_cases u h.is_map.child)

  -- no socket is above a socket
  sockets_apart : (s t : ℕ) → InMap b s → InMap b t → Ancestor b.nodes s t → OfKind b Kind.socket t → ⊥
  sockets_apart s t in_s in_t a is =
      let c = parent_of a in
      let top = parent_kind t (parent_word b.nodes t) Kind.socket in_t c is in
      let e = map_unique b in_s.root (parent_word b.nodes t) in_s.is_map top in
      let l = ancestor_earlier in_s.below in
      ⊎_elim (λ q. omega arith) (λ v. omega (arith, ancestor_earlier v)) (ancestor_cases a c)

  -- a record has at most one socket above it
  pub socket_unique :
      (i s t : ℕ) → InMap b i → Ancestor b.nodes s i → OfKind b Kind.socket s → Ancestor b.nodes t i → OfKind b Kind.socket t → s ≡ t
  socket_unique i s t h a is_s c is_t =
      ⊎_elim
      (λ e. e)
      (⊎_elim (λ u. absurd (sockets_apart s t in_s in_t u is_t)) (λ u. absurd (sockets_apart t s in_t in_s u is_s)))
      (ancestor_chain a c)
    where
      in_s : InMap b s
      in_s = ancestor_in_map s i Kind.socket h a is_s

      in_t : InMap b t
      in_t = ancestor_in_map t i Kind.socket h c is_t
