-- SPDX-License-Identifier: BSD-2-Clause OR GPL-2.0-or-later
-- The socket of a record: the nearest one among the record and its ancestors. Assumes well-formed tables, and that record 0 has no topology name.
use mathlib.Core.Path.{◌≡◌, refl}
use mathlib.Core.Bool.{false}
use mathlib.Core.Logic.{inl, inr, ⊎_elim}
use Prim.Native.Nat.{ℕ, ◌≤◌, ◌<◌}
use native.Mathlib.Nat.{le_antisymm}
use native.Mathlib.Omega.{arith}
use Rattle.layout.specs.facts.Row.{gap}
use Rattle.names.specs.declared.TopologyName.{TopologyName}
use Rattle.names.specs.facts.Kind.{Kind, Named}
use Rattle.names.proofs.NameMeans.{named_unique}
use Rattle.tables.specs.facts.Board.{Board, node_count, node_name}
use Rattle.tables.specs.answers.Tree.{has_parent, climb}
use Rattle.tables.specs.facts.Tree.{Child}
use Rattle.wellformed.specs.facts.Rules.{WellFormed}
use Rattle.tables.proofs.TreeLaws.{climb_none}
use Rattle.tables.proofs.DepthLaws.{ancestor_earlier}
use Rattle.wellformed.proofs.WellFormedLaws.{wf_depth}
use Rattle.cpumap.specs.facts.Map.{OfKind}
use Rattle.cpumap.specs.answers.Path.{topology_name, socket_step, socket_number}
use Rattle.cpumap.proofs.NameFacts.{Says, topology_says, kinds_apart}
use Rattle.cpumap.proofs.WithinMeans.{Within, parent_induction, within_above, above_within, climb_child, within_le, top_zero}

-- the number of the nearest socket among record i and its ancestors, or GAP
pub data SocketWithin (b : Board) (i : ℕ) : ℕ → Type 0 where
  in_socket :
      (s n : ℕ) →
      Within b.nodes i s →
      Named (node_name b s) Kind.socket n →
      ((t : ℕ) → Within b.nodes i t → OfKind b Kind.socket t → t ≤ s) →
      SocketWithin b i n
  no_socket : ((s : ℕ) → Within b.nodes i s → OfKind b Kind.socket s → ⊥) → SocketWithin b i gap

-- there is one such number
pub socket_unique : {b : Board} {i v w : ℕ} → SocketWithin b i v → SocketWithin b i w → v ≡ w
socket_unique (SocketWithin.in_socket s n at name near) (SocketWithin.in_socket t m at_t name_t near_t) =
    let e : s ≡ t = le_antisymm (near_t s at (n, name)) (near t at_t (m, name_t)) in
    (named_unique (rw e at name) name_t).1
socket_unique (SocketWithin.in_socket s n at name near) (SocketWithin.no_socket none) = absurd (none s at (n, name))
socket_unique (SocketWithin.no_socket none) (SocketWithin.in_socket t m at name near) = absurd (none t at (m, name))
socket_unique (SocketWithin.no_socket none) (SocketWithin.no_socket no_other) = refl

module _ (b : Board) where
  -- a record that is no socket has its parent's
  child_socket : {v p i : ℕ} → Child b.nodes p i → (OfKind b Kind.socket i → ⊥) → SocketWithin b p v → SocketWithin b i v
  child_socket {v} {p} {i} c other w = go w
    where
      down : (t : ℕ) → Within b.nodes i t → OfKind b Kind.socket t → Within b.nodes p t
      down t at is = ⊎_elim (λ e. absurd (other (rw e at is))) (above_within c) at

      go : {v : ℕ} → SocketWithin b p v → SocketWithin b i v
      go (SocketWithin.in_socket s n at name near) = SocketWithin.in_socket s n (inr (within_above c at)) name (λ t at_t is. near t (down t at_t is) is)
      go (SocketWithin.no_socket none) = SocketWithin.no_socket (λ t at_t is. none t (down t at_t is) is)

  says_socket : {x : TopologyName} {v p i : ℕ} → Says b i x → Child b.nodes p i → SocketWithin b p v → SocketWithin b i (socket_step x v)
  says_socket {i = i} (Says.socket n q) c w = SocketWithin.in_socket i n (inl refl) q (λ t at _. within_le at)
  says_socket {i = i} (Says.cluster n q) c w = child_socket c (λ t. kinds_apart b i Kind.socket Kind.cluster (λ z. omega arith) t (n, q)) w
  says_socket {i = i} (Says.core n q) c w = child_socket c (λ t. kinds_apart b i Kind.socket Kind.core (λ z. omega arith) t (n, q)) w
  says_socket {i = i} (Says.thread n q) c w = child_socket c (λ t. kinds_apart b i Kind.socket Kind.thread (λ z. omega arith) t (n, q)) w
  says_socket (Says.other none) c w = child_socket c (none Kind.socket) w

module _ (b : Board) (well : WellFormed b) (nameless : (kind : Kind) → OfKind b kind 0 → ⊥) where
  pub socket_word : (i : ℕ) → i < node_count b.nodes → SocketWithin b i (socket_number b.nodes b.pool i)
  unfolding socket_number
  socket_word = parent_induction (λ (i : ℕ). i < node_count b.nodes → SocketWithin b i (climb b.nodes gap step i)) top more
    where
      step : ℕ → ℕ → ℕ
      step i socket = socket_step (topology_name b.nodes b.pool i) socket

      root : (s : ℕ) → Within b.nodes 0 s → OfKind b Kind.socket s → ⊥
      root s at is = ⊎_elim (λ e. nameless Kind.socket (rw e at is)) (λ t. let l = ancestor_earlier t in omega arith) at

      top : (i : ℕ) → has_parent b.nodes i ≡ false → i < node_count b.nodes → SocketWithin b i (climb b.nodes gap step i)
      top i e lt = rw (← climb_none b.nodes gap step i e, top_zero (wf_depth well) i lt e) (SocketWithin.no_socket root)

      more :
          (p i : ℕ) →
          Child b.nodes p i →
          (p < node_count b.nodes → SocketWithin b p (climb b.nodes gap step p)) →
          i < node_count b.nodes →
          SocketWithin b i (climb b.nodes gap step i)
      more p i c ih lt = rw (climb_child gap step c) (says_socket b (topology_says b well i lt) c (ih (omega (arith, c.earlier))))
