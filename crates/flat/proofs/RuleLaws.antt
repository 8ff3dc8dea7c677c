-- SPDX-License-Identifier: BSD-2-Clause OR GPL-2.0-or-later
-- A broken rule of a blob by its number, and which one is told. Assumes nothing.
use mathlib.Core.Path.{◌≡◌, refl}
use mathlib.Core.Logic.{◌⊎◌, inl, inr}
use mathlib.Core.List.{List}
use Prim.Native.Nat.{ℕ, ◌-◌, ◌<◌, ◌≤◌}
use native.Mathlib.Omega.{arith}
use lib.ListN.{length}
use Rattle.laws.specs.facts.Limits.{no_parent}
use Rattle.laws.specs.facts.First.{stage_in, Before}
use Rattle.header.specs.facts.Header.{blocks_of}
use Rattle.stream.specs.facts.Tree.{Nodes, node_words, prop_words}
use Rattle.stream.specs.facts.Stream.{BrokenAt}
use Rattle.flat.specs.facts.Rules.{CpusNodes, Cpus, BlobRule, blob_stages, BlobTold}
use Rattle.flat.proofs.HeaderMeans.{HeaderSound, BlocksSound}

-- what a broken rule says, by its number
pub data Kind (blob : List ℕ) (node_room prop_room : ℕ) : ℕ → ℕ → Type 0 where
  header : (HeaderSound blob → ⊥) → Kind blob node_room prop_room 31 0
  blocks : (BlocksSound blob → ⊥) → Kind blob node_room prop_room 32 0
  structure : {p : ℕ} → BrokenAt (blocks_of blob) p → Kind blob node_room prop_room 33 p
  count : {found : List Nodes} → CpusNodes blob found → (length found ≡ 1 → ⊥) → Kind blob node_room prop_room 34 0
  space :
      {cpus : Nodes} →
      Cpus blob cpus →
      (node_room < length (node_words no_parent 0 cpus)) ⊎ (prop_room < length (prop_words 0 cpus)) →
      Kind blob node_room prop_room 35 0

module _ {blob : List ℕ} {node_room prop_room : ℕ} where
  pub kind : {n p : ℕ} → BlobRule blob node_room prop_room n p → Kind blob node_room prop_room n p
  kind (BlobRule.blob_header_short h) = Kind.header (λ s. omega (arith, s.not_short))
  kind (BlobRule.blob_header_long h) = Kind.header (λ s. omega (arith, s.not_long))
  kind (BlobRule.blob_header_magic h) = Kind.header (λ s. h s.is_magic)
  kind (BlobRule.blob_header_total_small h) = Kind.header (λ s. omega (arith, s.total_least))
  kind (BlobRule.blob_header_total_large h) = Kind.header (λ s. omega (arith, s.total_most))
  kind (BlobRule.blob_header_version h) = Kind.header (λ s. omega (arith, s.version_least))
  kind (BlobRule.blob_header_compatible h) = Kind.header (λ s. omega (arith, s.compatible_most))
  kind (BlobRule.blob_blocks_structure h) = Kind.blocks (λ s. omega (arith, s.structure))
  kind (BlobRule.blob_blocks_strings h) = Kind.blocks (λ s. omega (arith, s.strings))
  kind (BlobRule.blob_blocks_offset h) = Kind.blocks (λ s. h s.offset)
  kind (BlobRule.blob_blocks_size h) = Kind.blocks (λ s. h s.size)
  kind (BlobRule.blob_structure h) = Kind.structure h
  kind (BlobRule.blob_cpus c h) = Kind.count c h
  kind (BlobRule.table_space_nodes c h) = Kind.space c (inl h)
  kind (BlobRule.table_space_properties c h) = Kind.space c (inr h)

  -- each number is a stage of its own
  stage_is : {n p : ℕ} → Kind blob node_room prop_room n p → (31 ≤ n) × (stage_in blob_stages n ≡ n - 31)
  stage_is (Kind.header _) = (omega arith, refl)
  stage_is (Kind.blocks _) = (omega arith, refl)
  stage_is (Kind.structure _) = (omega arith, refl)
  stage_is (Kind.count _ _) = (omega arith, refl)
  stage_is (Kind.space _ _) = (omega arith, refl)

  -- the broken rule of the smallest number, at its lowest place, is told
  pub rule_told :
      {n p : ℕ} →
      BlobRule blob node_room prop_room n p →
      ((m q : ℕ) → BlobRule blob node_room prop_room m q → m ≤ n → (m ≡ n → q < p) → ⊥) →
      BlobTold blob node_room prop_room n p
  rule_told {n} {p} r none = record { broken = r; none_before = λ m q s b. before m q s b }
    where
      before : (m q : ℕ) → BlobRule blob node_room prop_room m q → Before (stage_in blob_stages) m q n p → ⊥
      before m q s (Before.earlier_stage lt) =
          let u = stage_is (kind s) in
          let v = stage_is (kind r) in
          none m q s (omega (arith, u.0, u.1, v.0, v.1)) (λ e. omega (arith, u.0, u.1, v.0, v.1))
      before m q s (Before.lower_place e lt) =
          let u = stage_is (kind s) in
          let v = stage_is (kind r) in
          none m q s (omega (arith, u.0, u.1, v.0, v.1)) (λ _. lt)
      before m q s (Before.smaller_number e f lt) = none m q s (omega arith) (λ same. absurd (omega arith))
