-- SPDX-License-Identifier: BSD-2-Clause OR GPL-2.0-or-later
-- What the topology name of a record says of the record's bytes. Assumes well-formed tables.
use mathlib.Core.Path.{◌≡◌, refl, sym, ap, ◌∙◌}
use mathlib.Core.Logic.{◌⊎◌, inl, inr, ◌↔◌}
use mathlib.Core.List.{List}
use Prim.Native.Nat.{ℕ, zero, suc, ◌<◌}
use native.Mathlib.Omega.{arith}
use borrow.Author.Tests.{lt-ltb, le-leb}
use Rattle.laws.proofs.DecideLaws.{Decides, decides_as}
use Rattle.names.specs.declared.TopologyName.{TopologyName}
use Rattle.names.specs.declared.TopologyName.TheVariants.{Socket, Cluster, Core, Thread, Other}
use Rattle.names.specs.facts.Kind.{Kind, Named}
use Rattle.names.specs.answers.Name.{named_as, name_of, starts_with, number_of, digits_from}
use Rattle.names.proofs.NameMeans.{name_means, other_means, named_unique}
use Rattle.tables.specs.facts.Board.{Board, node_count, node_name}
use Rattle.wellformed.specs.facts.Rules.{WellFormed}
use Rattle.wellformed.proofs.WellFormedLaws.{wf_name}
use Rattle.tables.specs.facts.Binding.{cpus_word, map_word}
use Rattle.cpus.specs.facts.Rules.{CpuRule, SoundCpus}
use Rattle.cpumap.specs.facts.Map.{OfKind}
use Rattle.cpumap.specs.answers.Path.{topology_name}
use Rattle.cpumap.specs.answers.Number.{kind_number, topology_number, is_numbered}
use Rattle.cpumap.proofs.NumberLaws.{numbered_kind}

-- a kind's number tells the kind
abbrev kind_from : ℕ → Kind
kind_from zero = Kind.socket
kind_from (suc zero) = Kind.socket
kind_from (suc (suc zero)) = Kind.cluster
kind_from (suc (suc (suc zero))) = Kind.core
kind_from (suc (suc (suc (suc n)))) = Kind.thread

kind_from_lem : (kind : Kind) (n : ℕ) → kind_from (kind_number (named_as kind n)) ≡ kind
kind_from_lem Kind.socket n = refl
kind_from_lem Kind.cluster n = refl
kind_from_lem Kind.core n = refl
kind_from_lem Kind.thread n = refl

pub kind_number_same : (k j : Kind) (n m : ℕ) → kind_number (named_as k n) ≡ kind_number (named_as j m) → k ≡ j
kind_number_same k j n m h = sym (kind_from_lem k n) ∙ ap kind_from h ∙ kind_from_lem j m

pub kind_number_of : (kind : Kind) (n m : ℕ) → kind_number (named_as kind n) ≡ kind_number (named_as kind m)
kind_number_of Kind.socket n m = refl
kind_number_of Kind.cluster n m = refl
kind_number_of Kind.core n m = refl
kind_number_of Kind.thread n m = refl

-- 0 is the number of Other alone
pub kind_number_some : (kind : Kind) (n : ℕ) → kind_number (named_as kind n) ≡ 0 → ⊥
kind_number_some Kind.socket n h = omega arith
kind_number_some Kind.cluster n h = omega arith
kind_number_some Kind.core n h = omega arith
kind_number_some Kind.thread n h = omega arith

pub kind_number_zero : (name : TopologyName) → kind_number name ≡ 0 → name ≡ Other
kind_number_zero (Socket n) h = absurd (omega arith)
kind_number_zero (Cluster n) h = absurd (omega arith)
kind_number_zero (Core n) h = absurd (omega arith)
kind_number_zero (Thread n) h = absurd (omega arith)
kind_number_zero Other h = refl

pub number_answered : (kind : Kind) (n : ℕ) → topology_number (named_as kind n) ≡ n
number_answered Kind.socket n = refl
number_answered Kind.cluster n = refl
number_answered Kind.core n = refl
number_answered Kind.thread n = refl

-- what an answer of the name reader says of record i
pub data Says (b : Board) (i : ℕ) : TopologyName → Type 0 where
  socket : (n : ℕ) → Named (node_name b i) Kind.socket n → Says b i (Socket n)
  cluster : (n : ℕ) → Named (node_name b i) Kind.cluster n → Says b i (Cluster n)
  core : (n : ℕ) → Named (node_name b i) Kind.core n → Says b i (Core n)
  thread : (n : ℕ) → Named (node_name b i) Kind.thread n → Says b i (Thread n)
  other : ((kind : Kind) → OfKind b kind i → ⊥) → Says b i Other

-- the words of the cpus node and of the map are no topology names
nameless : (name : List ℕ) → name_of name ≡ Other → (kind : Kind) (n : ℕ) → Named name kind n → ⊥
nameless name e = (other_means name).0 e

-- a record has one kind
pub is_unique : (b : Board) (i : ℕ) (k j : Kind) → OfKind b k i → OfKind b j i → k ≡ j
is_unique b i k j s t = (named_unique s.1 t.1).0

pub kinds_apart : (b : Board) (i : ℕ) (k j : Kind) → (kind_number (named_as k 0) ≡ kind_number (named_as j 0) → ⊥) → OfKind b k i → OfKind b j i → ⊥
kinds_apart b i k j ne s t = ne (ap (λ (kind : Kind). kind_number (named_as kind 0)) (is_unique b i k j s t))

module _ (b : Board) where
  pub cpus_nameless : (i : ℕ) → node_name b i ≡ cpus_word → (kind : Kind) → OfKind b kind i → ⊥
  unfolding name_of starts_with number_of digits_from
  cpus_nameless i e kind t = nameless cpus_word refl kind t.0 (rw e at t.1)

  pub root_nameless : SoundCpus b → (kind : Kind) → OfKind b kind 0 → ⊥
  root_nameless sound kind t = sound 9 0 (CpuRule.cpus_node_name (λ e. cpus_nameless 0 e kind t))

  pub map_nameless : (i : ℕ) → node_name b i ≡ map_word → (kind : Kind) → OfKind b kind i → ⊥
  unfolding name_of starts_with number_of digits_from
  map_nameless i e kind t = nameless map_word refl kind t.0 (rw e at t.1)

module _ (b : Board) (well : WellFormed b) where
  abbrev name : ℕ → TopologyName
  name i = topology_name b.nodes b.pool i

  -- the name of a record of the table
  pub topology_name_lem : (i : ℕ) → i < node_count b.nodes → name i ≡ name_of (node_name b i)
  unfolding topology_name
  topology_name_lem i lt = rw (lt-ltb _ _ lt, le-leb _ _ (wf_name well i lt).inside)

  pub topology_is : (i : ℕ) (kind : Kind) (n : ℕ) → i < node_count b.nodes → (name i ≡ named_as kind n) ↔ Named (node_name b i) kind n
  topology_is i kind n lt =
      let t = name_means (node_name b i) kind n in
      (λ e. t.0 (sym (topology_name_lem i lt) ∙ e), λ p. topology_name_lem i lt ∙ t.1 p)

  pub topology_other : (i : ℕ) → i < node_count b.nodes → (name i ≡ Other) ↔ ((kind : Kind) → OfKind b kind i → ⊥)
  topology_other i lt =
      let t = other_means (node_name b i) in
      (λ e kind p. t.0 (sym (topology_name_lem i lt) ∙ e) kind p.0 p.1, λ none. topology_name_lem i lt ∙ t.1 (λ kind n p. none kind (n, p)))

  -- a record has the number n exactly when its name is that of some kind with the number n
  pub numbered_test : (i n : ℕ) → i < node_count b.nodes → Decides (is_numbered n (name i)) ((kind : Kind) × Named (node_name b i) kind n)
  numbered_test i n lt =
      decides_as (numbered_kind (name i) n)
      (λ t. (t.0, (topology_is i t.0 n lt).0 t.1))
      (λ t. (t.0, (topology_is i t.0 n lt).1 t.1))

  pub topology_says : (i : ℕ) → i < node_count b.nodes → Says b i (name i)
  topology_says i lt = go (name i) refl
    where
      go : (x : TopologyName) → name i ≡ x → Says b i x
      go (Socket n) e = Says.socket n ((topology_is i Kind.socket n lt).0 e)
      go (Cluster n) e = Says.cluster n ((topology_is i Kind.cluster n lt).0 e)
      go (Core n) e = Says.core n ((topology_is i Kind.core n lt).0 e)
      go (Thread n) e = Says.thread n ((topology_is i Kind.thread n lt).0 e)
      go Other e = Says.other ((topology_other i lt).0 e)

  -- a record has a kind and a number, or no topology name
  abbrev NameCases : ℕ → Type 0
  NameCases i =
      ((kind : Kind) × (n : ℕ) × (name i ≡ named_as kind n) × Named (node_name b i) kind n) ⊎ ((name i ≡ Other) × ((kind : Kind) → OfKind b kind i → ⊥))

  pub topology_cases : (i : ℕ) → i < node_count b.nodes → NameCases i
  topology_cases i lt = go (name i) refl (topology_says i lt)
    where
      go : (x : TopologyName) → name i ≡ x → Says b i x → NameCases i
      go x e (Says.socket n p) = inl (Kind.socket, n, e, p)
      go x e (Says.cluster n p) = inl (Kind.cluster, n, e, p)
      go x e (Says.core n p) = inl (Kind.core, n, e, p)
      go x e (Says.thread n p) = inl (Kind.thread, n, e, p)
      go x e (Says.other none) = inr (e, none)
