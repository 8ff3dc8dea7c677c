-- SPDX-License-Identifier: BSD-2-Clause OR GPL-2.0-or-later
-- Worked blobs as two tables, and the claims that the definitions give each of their entries. A blob is written as the cells of its structure
-- block and the bytes of its strings block.
use Rattle.std.specs.Prelude.{List, [], ◌∷◌, ◌++◌, map, ◌≡◌, refl, ℕ, ◌+◌, ◌*◌, length}
use Rattle.laws.specs.answers.Listed.{laid_over}
use Rattle.laws.specs.answers.Same.{same_list}
use Rattle.tables.specs.facts.Property.{cell_bytes, cell_at}
use Rattle.tables.specs.answers.Range.{range_is}
use Rattle.tokens.specs.answers.Read.{zero_in, zero_from, behind_zero_in, behind_zero, begin_read, property_read, token_read, known_read}
use Rattle.header.specs.facts.Header.{header_bytes, magic_number, format_version}
use Rattle.header.specs.answers.Fault.{version_fault, header_fault, blocks_fault}
use Rattle.stream.specs.answers.Walk.{cpus_mark, begun, walk_from}
use Rattle.flat.specs.facts.Told.{BlobAnswer}
use Rattle.flat.specs.answers.Fill.{has_outer, fill_from}
use Rattle.flat.specs.answers.Answer.{blob_refused, count_answer, blob_answer, nodes_after, props_after}

unfoldable pub cells : List ℕ → List ℕ
cells [] = []
cells (c ∷ cs) = cell_bytes c ++ cells cs

unfoldable pub blob_with : List ℕ → List ℕ → List ℕ
blob_with structure strings =
    let size = 4 * length structure in
    let names = length strings in
    let at = header_bytes + size in
    cells (magic_number ∷ (at + names) ∷ header_bytes ∷ at ∷ header_bytes ∷ format_version ∷ 16 ∷ 0 ∷ names ∷ size ∷ []) ++ (cells structure ++ strings)

pub record Case : Type 0 where
  pub structure : List ℕ
  pub strings : List ℕ
  pub nodes : List ℕ
  pub props : List ℕ
  pub answer : BlobAnswer
  pub nodes_then : List ℕ
  pub props_then : List ℕ

-- / { cpus { reg = <7>; cpu { }; }; } with NOPs before the root, before the child and behind the value
unfoldable pub small_blob : List ℕ
small_blob = 4 ∷ 1 ∷ 0 ∷ 1 ∷ 0x63707573 ∷ 0 ∷ 3 ∷ 4 ∷ 0 ∷ 7 ∷ 4 ∷ 1 ∷ 0x63707500 ∷ 2 ∷ 2 ∷ 2 ∷ 9 ∷ []

-- accepted with tables that are longer; 35 with one word too few for the nodes
unfoldable pub blobs : List Case
blobs =
    record {
      structure = small_blob;
      strings = 114 ∷ 101 ∷ 103 ∷ 0 ∷ [];
      nodes = 1 ∷ 2 ∷ 3 ∷ 4 ∷ 5 ∷ 6 ∷ 7 ∷ [];
      props = 1 ∷ 2 ∷ 3 ∷ 4 ∷ 5 ∷ 6 ∷ [];
      answer = record { number = 0; place = 0; nodes = 2; props = 1 };
      nodes_then = 0xFFFFFFFF ∷ 56 ∷ 4 ∷ 0 ∷ 88 ∷ 3 ∷ 7 ∷ [];
      props_then = 0 ∷ 108 ∷ 3 ∷ 76 ∷ 4 ∷ 6 ∷ [];
    }
    ∷ record {
      structure = small_blob;
      strings = 114 ∷ 101 ∷ 103 ∷ 0 ∷ [];
      nodes = 1 ∷ 2 ∷ 3 ∷ 4 ∷ 5 ∷ [];
      props = 1 ∷ 2 ∷ 3 ∷ 4 ∷ 5 ∷ 6 ∷ [];
      answer = blob_refused 35 0;
      nodes_then = 1 ∷ 2 ∷ 3 ∷ 4 ∷ 5 ∷ [];
      props_then = 1 ∷ 2 ∷ 3 ∷ 4 ∷ 5 ∷ 6 ∷ [];
    }
    ∷ []

abbrev pub defined : Case → Case
defined c =
    let blob = blob_with c.structure c.strings in
    record {
      structure = c.structure;
      strings = c.strings;
      nodes = c.nodes;
      props = c.props;
      answer = blob_answer blob (length c.nodes) (length c.props);
      nodes_then = nodes_after blob c.nodes (length c.props);
      props_then = props_after blob (length c.nodes) c.props;
    }

pub blobs_hold : map defined blobs ≡ blobs
unfolding cells blob_with small_blob blobs laid_over same_list range_is cell_at zero_in zero_from behind_zero_in behind_zero begin_read property_read
    token_read known_read cpus_mark begun walk_from has_outer fill_from version_fault header_fault blocks_fault count_answer blob_answer nodes_after
    props_after
blobs_hold = refl

-- Streams that are refused, each with its number and place. They begin at 40, so that cell k stands at 40 + 4 × k.
pub record Refusal : Type 0 where
  pub structure : List ℕ
  pub strings : List ℕ
  pub number : ℕ
  pub place : ℕ

abbrev pub refused : List ℕ → List ℕ → ℕ → ℕ → Refusal
refused structure strings number place = record { structure = structure; strings = strings; number = number; place = place }

-- In order: a property behind a child; a NOP behind the end token; the end token in an open node; tokens run out; no token; a second root;
-- a property, a close token, an end token outside every node; a value that leaves the block; names without a zero byte; no `cpus`; two; one
-- deeper only; `cpus1`.
unfoldable pub refusals : List Refusal
refusals =
    refused (1 ∷ 0 ∷ 1 ∷ 0x63707573 ∷ 0 ∷ 2 ∷ 3 ∷ 0 ∷ 0 ∷ 2 ∷ 9 ∷ []) (97 ∷ 0 ∷ []) 33 64
    ∷ refused (1 ∷ 0 ∷ 1 ∷ 0x63707573 ∷ 0 ∷ 2 ∷ 2 ∷ 9 ∷ 4 ∷ []) [] 33 72
    ∷ refused (1 ∷ 0 ∷ 9 ∷ []) [] 33 48
    ∷ refused (1 ∷ 0 ∷ 2 ∷ []) [] 33 52
    ∷ refused [] [] 33 40
    ∷ refused (1 ∷ 0 ∷ 2 ∷ 1 ∷ 0 ∷ 2 ∷ 9 ∷ []) [] 33 52
    ∷ refused (3 ∷ 0 ∷ 0 ∷ 9 ∷ []) (97 ∷ 0 ∷ []) 33 40
    ∷ refused (2 ∷ 9 ∷ []) [] 33 40
    ∷ refused (9 ∷ []) [] 33 40
    ∷ refused (1 ∷ 0 ∷ 3 ∷ 13 ∷ 0 ∷ 7 ∷ 2 ∷ 9 ∷ []) (97 ∷ 0 ∷ []) 33 48
    ∷ refused (1 ∷ 0 ∷ 3 ∷ 0 ∷ 0 ∷ 2 ∷ 9 ∷ []) (97 ∷ 98 ∷ 99 ∷ []) 33 48
    ∷ refused (1 ∷ 0x61616161 ∷ []) [] 33 40
    ∷ refused (1 ∷ 0 ∷ 2 ∷ 9 ∷ []) [] 34 0
    ∷ refused (1 ∷ 0 ∷ 1 ∷ 0x63707573 ∷ 0 ∷ 2 ∷ 1 ∷ 0x63707573 ∷ 0 ∷ 2 ∷ 2 ∷ 9 ∷ []) [] 34 0
    ∷ refused (1 ∷ 0 ∷ 1 ∷ 0x61000000 ∷ 1 ∷ 0x63707573 ∷ 0 ∷ 2 ∷ 2 ∷ 2 ∷ 9 ∷ []) [] 34 0
    ∷ refused (1 ∷ 0 ∷ 1 ∷ 0x63707573 ∷ 0x31000000 ∷ 2 ∷ 2 ∷ 9 ∷ []) [] 34 0
    ∷ []

abbrev pub told : Refusal → Refusal
told r =
    let a = blob_answer (blob_with r.structure r.strings) 300 300 in
    record { structure = r.structure; strings = r.strings; number = a.number; place = a.place }

pub refusals_hold : map told refusals ≡ refusals
unfolding cells blob_with refusals same_list range_is cell_at zero_in zero_from behind_zero_in behind_zero begin_read property_read token_read cpus_mark
    begun walk_from version_fault header_fault blocks_fault count_answer blob_answer
refusals_hold = refl
