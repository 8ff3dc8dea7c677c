-- SPDX-License-Identifier: BSD-2-Clause OR GPL-2.0-or-later
-- One table of rows at most fits an accepted map: each word of a row is unique. Assumes nothing.
use mathlib.Core.Path.{◌≡◌, refl, sym, ap, ◌∙◌}
use mathlib.Core.List.{List}
use Prim.Native.Nat.{ℕ, ◌*◌, ◌<◌}
use native.Mathlib.Omega.{arith}
use lib.ListN.{length, get_or}
use lib.Seq.{ext_get_or}
use Rattle.laws.proofs.ListingLaws.{listing_unique}
use Rattle.laws.proofs.BlockLaws.{blocks_same}
use Rattle.layout.specs.facts.Row.{row_size, row_cpu, row_upper, row_lower, row_cluster, row_at}
use Rattle.layout.proofs.RowLaws.{row_same}
use Rattle.affinity.specs.declared.Hash.{Hash}
use Rattle.affinity.specs.facts.Slot.{slot_of}
use Rattle.affinity.proofs.HashMeans.{hash_unique}
use Rattle.names.specs.facts.Kind.{Kind, Named}
use Rattle.names.proofs.NameMeans.{named_unique}
use Rattle.tables.specs.facts.Board.{Board, WordSized, node_name}
use Rattle.wellformed.specs.facts.Rules.{WellFormed}
use Rattle.tables.proofs.DepthLaws.{child_unique}
use Rattle.cpus.specs.facts.Rules.{SoundCpus, SoundPhandles}
use Rattle.cpus.proofs.RegMeans.{reg_unique}
use Rattle.cpumap.specs.facts.Map.{InMap, OfKind}
use Rattle.topology.specs.facts.Rules.{SoundTopology}
use Rattle.leaves.specs.facts.Leaf.{Leaf}
use Rattle.cpumap.proofs.NameFacts.{kinds_apart}
use Rattle.leaves.proofs.LeafMeans.{names_unique}
use Rattle.leaves.proofs.RuleCases.{leaf_in_map}
use Rattle.rows.specs.facts.BoardHash.{Mpidrs, BoardHash}
use Rattle.rows.specs.facts.Fits.{SocketWord, CoreWord, ThreadWord, SlotWord, RowFits, Fits}
use Rattle.rows.proofs.ShapeLaws.{socket_unique}
use Rattle.rows.proofs.WordMeans.{cluster_word_only}

-- the core and the thread
core_thread : {A : Type 0} (b : Board) (leaf n : ℕ) → Named (node_name b leaf) Kind.core n → OfKind b Kind.thread leaf → A
core_thread b leaf n h t = absurd (kinds_apart b leaf Kind.core Kind.thread (λ e. omega arith) (n, h) t)

pub core_word_unique : {b : Board} {leaf x y : ℕ} → CoreWord b leaf x → CoreWord b leaf y → x ≡ y
core_word_unique (CoreWord.itself n h) (CoreWord.itself m g) = (named_unique h g).1
core_word_unique {b} {leaf} (CoreWord.itself n h) (CoreWord.of_thread p m t c g) = core_thread b leaf n h t
core_word_unique {b} {leaf} (CoreWord.of_thread p n t c h) (CoreWord.itself m g) = core_thread b leaf m g t
core_word_unique (CoreWord.of_thread p n t c h) (CoreWord.of_thread q m s d g) = let e = child_unique c d in (named_unique (rw e at h) g).1

pub thread_word_unique : {b : Board} {leaf x y : ℕ} → ThreadWord b leaf x → ThreadWord b leaf y → x ≡ y
thread_word_unique (ThreadWord.itself n h) (ThreadWord.itself m g) = (named_unique h g).1
thread_word_unique (ThreadWord.itself n h) (ThreadWord.not_thread none) = absurd (none (n, h))
thread_word_unique (ThreadWord.not_thread none) (ThreadWord.itself m g) = absurd (none (m, g))
thread_word_unique (ThreadWord.not_thread none) (ThreadWord.not_thread other) = refl

module _ {b : Board} (well : WellFormed b) where
  -- the slot
  mpidrs_unique : {l k : List ℕ} → Mpidrs b l → Mpidrs b k → l ≡ k
  mpidrs_unique {l} {k} h g = ext_get_or 0 l k (h.size ∙ ap length cpus_same ∙ sym g.size) each
    where
      cpus_same : h.cpus ≡ g.cpus
      cpus_same = listing_unique h.cpus g.cpus h.listing g.listing

      each : (i : ℕ) → i < length l → get_or l i 0 ≡ get_or k i 0
      each i lt =
          let p = h.each i (rw h.size at lt) in
          let q = g.each i (rw (h.size, cpus_same) at lt) in
          let e = reg_unique well (rw cpus_same at p.2) q.2 in
          p.3 ∙ rw (e.0, e.1) (sym q.3)

  pub board_hash_unique : {x y : Hash} → BoardHash b x → BoardHash b y → x ≡ y
  board_hash_unique (BoardHash.of_mpidrs has l h is) (BoardHash.of_mpidrs _ k g other) = hash_unique (rw (mpidrs_unique h g) at is) other
  board_hash_unique (BoardHash.of_mpidrs has l h is) (BoardHash.of_harts e) = absurd (has e)
  board_hash_unique (BoardHash.of_harts e) (BoardHash.of_mpidrs has l h is) = absurd (has e)
  board_hash_unique (BoardHash.of_harts e) (BoardHash.of_harts _) = refl

  slot_word_unique : {m x y : ℕ} → SlotWord b m x → SlotWord b m y → x ≡ y
  slot_word_unique {m} (SlotWord.slotted has h is) (SlotWord.slotted _ g other) = ap (λ (x : Hash). slot_of x m) (board_hash_unique is other)
  slot_word_unique (SlotWord.slotted has h is) (SlotWord.no_slot e) = absurd (has e)
  slot_word_unique (SlotWord.no_slot e) (SlotWord.slotted has h is) = absurd (has e)
  slot_word_unique (SlotWord.no_slot e) (SlotWord.no_slot _) = refl

module _
    {b : Board}
    (sized : WordSized b)
    (well : WellFormed b)
    (sound : SoundCpus b)
    (handles : SoundPhandles b)
    (kept : SoundTopology b)
  where
    -- the socket
    pub socket_word_unique : {leaf x y : ℕ} → InMap b leaf → SocketWord b leaf x → SocketWord b leaf y → x ≡ y
    socket_word_unique {leaf} i (SocketWord.in_socket s n a h) (SocketWord.in_socket t m c g) =
        let e = socket_unique b well i.root i.is_map sound kept leaf s t i a (n, h) c (m, g) in (named_unique (rw e at h) g).1
    socket_word_unique i (SocketWord.in_socket s n a h) (SocketWord.no_socket none) = absurd (none s a (n, h))
    socket_word_unique i (SocketWord.no_socket none) (SocketWord.in_socket t m c g) = absurd (none t c (m, g))
    socket_word_unique i (SocketWord.no_socket none) (SocketWord.no_socket other) = refl

    pub row_unique : {leaf : ℕ} {r s : List ℕ} → Leaf b leaf → RowFits b leaf r → RowFits b leaf s → r ≡ s
    row_unique {leaf} {r} {s} l h g =
        row_same r s h.size g.size
        (h.leaf_word ∙ sym g.leaf_word) cpu reg.0 reg.1
        (socket_word_unique (leaf_in_map l) h.socket g.socket) cluster
        (core_word_unique h.core g.core)
        (thread_word_unique h.thread g.thread)
        (slot_word_unique well (rw (reg.0, reg.1) at h.slot) g.slot)
      where
        cpu : row_cpu r ≡ row_cpu s
        cpu = names_unique sized well handles leaf (row_cpu r) (row_cpu s) h.cpu g.cpu

        reg : (row_upper r ≡ row_upper s) × (row_lower r ≡ row_lower s)
        reg = reg_unique well (rw cpu at h.reg) g.reg

        cluster : (d : ℕ) → d < 4 → row_cluster r d ≡ row_cluster s d
        cluster d lt = cluster_word_only well sound l d lt (h.cluster d lt) ∙ sym (cluster_word_only well sound l d lt (g.cluster d lt))

    pub fits_unique : {r s : List ℕ} → Fits b r → Fits b s → r ≡ s
    fits_unique {r} {s} h g =
        blocks_same row_size (length h.leaves) r s h.size (g.size ∙ ap (λ (l : List ℕ). row_size * length l) (sym same)) rows
      where
        same : h.leaves ≡ g.leaves
        same = listing_unique h.leaves g.leaves h.listing g.listing

        rows : (k : ℕ) → k < length h.leaves → row_at r k ≡ row_at s k
        rows k lt =
            let other : RowFits b (get_or h.leaves k 0) (row_at s k) = rw same (g.each k (rw same at lt)) in
            row_unique (h.listing.only k lt) (h.each k lt) other
