-- SPDX-License-Identifier: BSD-2-Clause OR GPL-2.0-or-later
-- What is told of a header, as a fact. Assumes nothing.
use mathlib.Core.Path.{◌≡◌}
use mathlib.Core.Bool.{cond}
use mathlib.Core.List.{List}
use Prim.Native.Nat.{ℕ, ◌+◌, ◌%◌, ◌≤◌}
use lib.Dec.{ltb, eqb}
use lib.ListN.{length}
use borrow.Author.Tests.{ltb-true, ltb-false, eqb-true, eqb-false}
use Rattle.laws.specs.facts.Limits.{max_blob}
use Rattle.laws.proofs.TestLaws.{cond_both}
use Rattle.laws.proofs.VerdictLaws.{Verdict}
use Rattle.header.specs.facts.Header.{header_bytes, magic_number, format_version, magic, total_size, structure_at, strings_at, version}
use Rattle.header.specs.facts.Header.{last_compatible, strings_size, structure_size}
use Rattle.header.specs.answers.Fault.{version_fault, header_fault, blocks_fault}
use Rattle.flat.specs.facts.Rules.{BlobRule}

-- neither 31 nor 32 is broken
pub record HeaderSound (blob : List ℕ) : Type 0 where
  pub not_short : header_bytes ≤ length blob
  pub not_long : length blob ≤ max_blob
  pub is_magic : magic blob ≡ magic_number
  pub total_least : header_bytes ≤ total_size blob
  pub total_most : total_size blob ≤ length blob
  pub version_least : format_version ≤ version blob
  pub compatible_most : last_compatible blob ≤ format_version

pub record BlocksSound (blob : List ℕ) : Type 0 where
  pub structure : structure_at blob + structure_size blob ≤ total_size blob
  pub strings : strings_at blob + strings_size blob ≤ total_size blob
  pub offset : structure_at blob % 4 ≡ 0
  pub size : structure_size blob % 4 ≡ 0

module _ (blob : List ℕ) (node_room prop_room : ℕ) where
  abbrev Header : ℕ → Type 0
  Header = Verdict (BlobRule blob node_room prop_room) 31 0 (HeaderSound blob)

  abbrev Blocks : ℕ → Type 0
  Blocks = Verdict (BlobRule blob node_room prop_room) 32 0 (BlocksSound blob)

  pub header_verdict : Header (header_fault blob)
  unfolding header_fault version_fault
  header_verdict =
      let compatible : ℕ = cond (ltb format_version (last_compatible blob)) 31 0 in
      let new : ℕ = cond (ltb (version blob) format_version) 31 compatible in
      let most : ℕ = cond (ltb (length blob) (total_size blob)) 31 new in
      let least : ℕ = cond (ltb (total_size blob) header_bytes) 31 most in
      let is_magic : ℕ = cond (eqb (magic blob) magic_number) least 31 in
      cond_both Header (ltb (length blob) header_bytes) 31 (cond (ltb max_blob (length blob)) 31 is_magic)
      (λ e. Verdict.broken (BlobRule.blob_header_short (ltb-true (length blob) header_bytes e)))
      λ a. cond_both Header (ltb max_blob (length blob)) 31 is_magic
      (λ e. Verdict.broken (BlobRule.blob_header_long (ltb-true max_blob (length blob) e)))
      λ b. cond_both Header (eqb (magic blob) magic_number) least 31
      (λ c. cond_both Header (ltb (total_size blob) header_bytes) 31 most
      (λ e. Verdict.broken (BlobRule.blob_header_total_small (ltb-true (total_size blob) header_bytes e)))
      λ d. cond_both Header (ltb (length blob) (total_size blob)) 31 new
      (λ e. Verdict.broken (BlobRule.blob_header_total_large (ltb-true (length blob) (total_size blob) e)))
      λ f. cond_both Header (ltb (version blob) format_version) 31 compatible
      (λ e. Verdict.broken (BlobRule.blob_header_version (ltb-true (version blob) format_version e)))
      λ g. cond_both Header (ltb format_version (last_compatible blob)) 31 0
      (λ e. Verdict.broken (BlobRule.blob_header_compatible (ltb-true format_version (last_compatible blob) e)))
      λ h. Verdict.sound
      (record {
        not_short = ltb-false (length blob) header_bytes a;
        not_long = ltb-false max_blob (length blob) b;
        is_magic = eqb-true (magic blob) magic_number c;
        total_least = ltb-false (total_size blob) header_bytes d;
        total_most = ltb-false (length blob) (total_size blob) f;
        version_least = ltb-false (version blob) format_version g;
        compatible_most = ltb-false format_version (last_compatible blob) h;
      }))
      λ e. Verdict.broken (BlobRule.blob_header_magic (eqb-false (magic blob) magic_number e))

  pub blocks_verdict : Blocks (blocks_fault blob)
  unfolding blocks_fault
  blocks_verdict =
      let size : ℕ = cond (eqb (structure_size blob % 4) 0) 0 32 in
      let offset : ℕ = cond (eqb (structure_at blob % 4) 0) size 32 in
      let end = structure_at blob + structure_size blob in
      let strings_end = strings_at blob + strings_size blob in
      cond_both Blocks (ltb (total_size blob) end) 32 (cond (ltb (total_size blob) strings_end) 32 offset)
      (λ e. Verdict.broken (BlobRule.blob_blocks_structure (ltb-true (total_size blob) end e)))
      λ a. cond_both Blocks (ltb (total_size blob) strings_end) 32 offset
      (λ e. Verdict.broken (BlobRule.blob_blocks_strings (ltb-true (total_size blob) strings_end e)))
      λ b. cond_both Blocks (eqb (structure_at blob % 4) 0) size 32
      (λ c. cond_both Blocks (eqb (structure_size blob % 4) 0) 0 32
      (λ d. Verdict.sound
      (record {
        structure = ltb-false (total_size blob) end a;
        strings = ltb-false (total_size blob) strings_end b;
        offset = eqb-true (structure_at blob % 4) 0 c;
        size = eqb-true (structure_size blob % 4) 0 d;
      }))
      λ e. Verdict.broken (BlobRule.blob_blocks_size (eqb-false (structure_size blob % 4) 0 e)))
      λ e. Verdict.broken (BlobRule.blob_blocks_offset (eqb-false (structure_at blob % 4) 0 e))
