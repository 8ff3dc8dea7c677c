-- SPDX-License-Identifier: BSD-2-Clause OR GPL-2.0-or-later
-- What the words of a row from the socket to the thread are computed as fits the map. Assumes nothing.
use mathlib.Core.Path.{◌≡◌}
use mathlib.Core.Logic.{◌⊎◌, inl, inr, ⊎_elim}
use Prim.Native.Nat.{ℕ, ◌<◌}
use native.Mathlib.Omega.{arith}
use lib.ListN.{get_or}
use Rattle.names.specs.declared.TopologyName.{TopologyName}
use Rattle.names.specs.facts.Kind.{Kind, Named}
use Rattle.names.specs.answers.Name.{named_as}
use Rattle.tables.specs.facts.Board.{Board, node_count, node_name, parent_word}
use Rattle.wellformed.specs.facts.Rules.{WellFormed}
use Rattle.cpus.specs.facts.Rules.{SoundCpus}
use Rattle.cpumap.specs.facts.Map.{Map, OfKind}
use Rattle.topology.specs.facts.Rules.{SoundTopology}
use Rattle.leaves.specs.facts.Leaf.{Leaf}
use Rattle.cpumap.specs.answers.Path.{topology_name, cluster_path, socket_number}
use Rattle.cpumap.specs.answers.Number.{kind_number}
use Rattle.cpumap.proofs.NameFacts.{root_nameless, kinds_apart, topology_is}
use Rattle.topology.proofs.KindMeans.{parent_of}
use Rattle.cpumap.proofs.PathWords.{PathWord, cluster_above, above_cluster, path_word, path_word_only}
use Rattle.cpumap.proofs.SocketMeans as sockets
use Rattle.cpumap.proofs.MapMeans.{in_map_inside}
use Rattle.leaves.proofs.RuleCases.{leaf_inside}
use Rattle.rows.specs.answers.Leaf.{core_of, thread_of}
use Rattle.rows.specs.facts.Fits.{SocketWord, ClusterWord, CoreWord, ThreadWord}
use Rattle.rows.proofs.ShapeLaws.{parent_kind}

-- a leaf is a core or a thread
leaf_kind : {b : Board} {leaf : ℕ} → Leaf b leaf → OfKind b Kind.core leaf ⊎ OfKind b Kind.thread leaf
leaf_kind (Leaf.a_thread i t) = inr t
leaf_kind (Leaf.a_core i c none) = inl c

leaf_not : (b : Board) (leaf : ℕ) (kind : Kind) → kind_number (named_as kind 0) < 3 → Leaf b leaf → OfKind b kind leaf → ⊥
leaf_not b leaf kind lt l s =
    ⊎_elim (kinds_apart b leaf kind Kind.core (λ e. omega arith) s) (kinds_apart b leaf kind Kind.thread (λ e. omega arith) s) (leaf_kind l)

module _ {b : Board} (well : WellFormed b) (sound : SoundCpus b) where
  -- the socket
  pub socket_word : {leaf : ℕ} → Leaf b leaf → SocketWord b leaf (socket_number b.nodes b.pool leaf)
  socket_word {leaf} l = go (sockets.socket_word b well (root_nameless b sound) leaf (leaf_inside l))
    where
      go : {v : ℕ} → sockets.SocketWithin b leaf v → SocketWord b leaf v
      go (sockets.SocketWithin.in_socket s n (inl e) h near) = absurd (leaf_not b leaf Kind.socket (omega arith) l (n, rw e at h))
      go (sockets.SocketWithin.in_socket s n (inr a) h near) = SocketWord.in_socket s n a h
      go (sockets.SocketWithin.no_socket none) = SocketWord.no_socket (λ s a is. none s (inr a) is)

  -- the clusters, and nothing else fits
  module _ {leaf : ℕ} (l : Leaf b leaf) (d : ℕ) (lt : d < 4) where
    not_cluster : OfKind b Kind.cluster leaf → ⊥
    not_cluster = leaf_not b leaf Kind.cluster (omega arith) l

    abbrev path_number : ℕ
    path_number = get_or (cluster_path b.nodes b.pool leaf).numbers d 0

    pub cluster_word : ClusterWord b leaf d path_number
    cluster_word = go (path_word b well (root_nameless b sound) leaf (leaf_inside l) d lt)
      where
        go : {v : ℕ} → PathWord b leaf d v → ClusterWord b leaf d v
        go (PathWord.in_cluster c n above t h listing e) = ClusterWord.in_cluster c n above (cluster_above b leaf not_cluster c t) h listing e
        go (PathWord.no_cluster none) = ClusterWord.no_cluster (λ c above t. none c above (above_cluster b leaf not_cluster c t))

    pub cluster_word_only : {v : ℕ} → ClusterWord b leaf d v → v ≡ path_number
    cluster_word_only {v} w = path_word_only b well (root_nameless b sound) leaf (leaf_inside l) d v lt (go w)
      where
        go : {v : ℕ} → ClusterWord b leaf d v → PathWord b leaf d v
        go (ClusterWord.in_cluster c n above t h listing e) = PathWord.in_cluster c n above (above_cluster b leaf not_cluster c t) h listing e
        go (ClusterWord.no_cluster none) = PathWord.no_cluster (λ c above t. none c above (cluster_above b leaf not_cluster c t))

  -- the core and the thread
  abbrev name : ℕ → TopologyName
  name i = topology_name b.nodes b.pool i

  named : {i n : ℕ} (kind : Kind) → i < node_count b.nodes → Named (node_name b i) kind n → name i ≡ named_as kind n
  named {i} {n} kind lt h = (topology_is b well i kind n lt).1 h

  pub core_word :
      {leaf m : ℕ} →
      Map b m →
      SoundTopology b →
      Leaf b leaf →
      CoreWord b leaf (core_of (name leaf) (name (parent_word b.nodes leaf)))
  core_word {leaf} {m} the_map kept (Leaf.a_thread i t) =
      let c = parent_of i.below in
      let core = parent_kind b well m the_map sound kept leaf (parent_word b.nodes leaf) Kind.thread i c t in
      rw (named Kind.thread c.inside t.1, named Kind.core (omega (arith, c.earlier, c.inside)) core.1)
      (CoreWord.of_thread (parent_word b.nodes leaf) core.0 t c core.1)
  core_word the_map kept (Leaf.a_core i c none) = rw (named Kind.core (in_map_inside i) c.1) (CoreWord.itself c.0 c.1)

  pub thread_word : {leaf : ℕ} → Leaf b leaf → ThreadWord b leaf (thread_of (name leaf))
  thread_word (Leaf.a_thread i t) = rw (named Kind.thread (in_map_inside i) t.1) (ThreadWord.itself t.0 t.1)
  thread_word {leaf} (Leaf.a_core i c none) =
      rw (named Kind.core (in_map_inside i) c.1) (ThreadWord.not_thread (kinds_apart b leaf Kind.core Kind.thread (λ e. omega arith) c))
