-- SPDX-License-Identifier: BSD-2-Clause OR GPL-2.0-or-later
-- What the call on a blob owes, by what its two parts promise: the reading of the blob, and that of the board. Assumes nothing.
use mathlib.Core.Path.{◌≡◌, refl, sym, ap, ap₂, ◌∙◌}
use mathlib.Core.List.{List}
use Prim.Native.Nat.{ℕ, ◌*◌, ◌/◌, ◌^◌, ◌≤◌, ◌<◌}
use native.Mathlib.Omega.{arith}
use lib.ListN.{length, take, drop}
use lib.Seq.{take_at}
use borrow.Author.Tests.{eq-eqb, ne_eqb}
use Rattle.laws.specs.facts.Limits.{no_parent}
use Rattle.laws.specs.facts.First.{stage_in}
use Rattle.laws.specs.answers.Fault.{plain}
use Rattle.laws.proofs.FirstLaws.{first_unique}
use Rattle.laws.specs.answers.Listed.{laid_over}
use Rattle.laws.proofs.FrontLaws.{front_is}
use Rattle.wire.specs.facts.Bytes.{word_size, words_in}
use Rattle.tables.specs.facts.Board.{board}
use Rattle.header.specs.facts.Header.{blocks_of}
use Rattle.stream.specs.facts.Tree.{node_words, prop_words}
use Rattle.flat.specs.facts.Told.{BlobAnswer}
use Rattle.flat.specs.facts.Rules.{BlobRule, BlobTold, blob_stages}
use Rattle.flat.specs.facts.Reading.{BlobReading, BlobAccepted, AtFront}
use Rattle.flat.specs.facts.Tables.{board_of}
use Rattle.flat.specs.answers.Fill.{Filled}
use Rattle.flat.specs.answers.Answer.{blob_answer, filled_in, nodes_after, props_after}
use Rattle.flat.proofs.Claim.{room, counted}
use Rattle.demands.specs.facts.Told.{BoardAnswer}
use Rattle.demands.specs.facts.Words.{Words}
use Rattle.demands.specs.facts.Reading.{Demands}
use Rattle.demands.specs.answers.Answer.{refused_with, answer_of}
use Rattle.demands.proofs.BoundLaws.{board_words}
use Rattle.loader.specs.facts.Image.{node_room, prop_room, ImageDemands}
use Rattle.loader.specs.answers.Image.{blob_found, board_in, row_bytes, image_answer, image_rows}
use Rattle.loader.proofs.RowLaws.{Bytes, bytes_rest, bytes_size, bytes_kept}

-- records at the front of a table are read back by their count
front_back : (words before : List ℕ) {after : List ℕ} {n : ℕ} → AtFront words before after → n ≡ length words → take n after ≡ words
front_back words before {n = n} e count = rw e (take_at words (drop (length words) before) n (sym count))

-- the tables that are lent to the reader of the blob, and what it left
module _
    (width : ℕ) (blob before : List ℕ) {nodes props nodes' props' : List ℕ} {found : BlobAnswer}
    (node_size : length nodes ≡ node_room) (prop_size : length props ≡ prop_room)
    (is : found ≡ blob_answer blob (length nodes) (length props))
    (reading : BlobReading blob nodes props found nodes' props') where
  found_is : found ≡ blob_found blob
  found_is = is ∙ ap₂ (blob_answer blob) node_size prop_size

  number_is : found.number ≡ (blob_found blob).number
  number_is = ap (λ (a : BlobAnswer). a.number) found_is

  abbrev Owed : BoardAnswer → List ℕ → Type 0
  Owed r after =
      (r ≡ image_answer width blob (length before))
      × ((after ≡ image_rows width blob before) × (Words r × ImageDemands width blob before r after))

  -- the rules for tables of these sizes
  sized_told : {n p : ℕ} → BlobTold blob node_room prop_room n p → BlobTold blob (length nodes) (length props) n p
  sized_told told = rw (node_size, prop_size) told

  sized_rule : {n p : ℕ} → BlobRule blob (length nodes) (length props) n p → BlobRule blob node_room prop_room n p
  sized_rule rule = rw (node_size, prop_size) at rule

  -- a refused blob
  module _ (ne : found.number ≡ 0 → ⊥) where
    refusal : {n p : ℕ} → BlobTold blob node_room prop_room n p → (n ≡ found.number) × (p ≡ found.place)
    refusal {n} {p} told =
        first_unique (stage_in blob_stages) (BlobRule blob (length nodes) (length props)) n p found.number found.place (sized_told told)
        (reading.refused ne).first

    pub refuses : found.place < 2 ^ 32 → Owed (refused_with (plain found.number found.place)) before
    unfolding image_answer image_rows
    refuses word =
        let shut = ne_eqb (blob_found blob).number 0 (λ z. ne (number_is ∙ z)) in (
          rw (shut, ← found_is),
          (
            rw shut,
            (
              record { place = word; second = omega arith; count = omega arith },
              record {
                refused = λ n p told.
                    let same = refusal told in
                    record { number = sym same.0; place = sym same.1; second = refl; count = refl; hash = refl };
                read = λ none. absurd (ne (reading.exactly.1 (λ n p rule. none n p (sized_rule rule))));
                untouched = λ _. refl;
                rest = refl;
                size = refl;
              },
            ),
          ),
        )

  -- an accepted one: its records, at the front of both tables
  module _
      (z : found.number ≡ 0)
      (nodes_are : nodes' ≡ nodes_after blob nodes (length props)) (props_are : props' ≡ props_after blob (length nodes) props) where
    abbrev accepted : BlobAccepted blob nodes props found nodes' props'
    accepted = reading.accepted z

    abbrev node_front : List ℕ
    node_front = take (3 * found.nodes) nodes'

    abbrev prop_front : List ℕ
    prop_front = take (5 * found.props) props'

    none : (n p : ℕ) → BlobRule blob node_room prop_room n p → ⊥
    none n p rule = reading.exactly.0 z n p (rw (node_size, prop_size) rule)

    -- they are those of the one `/cpus` node
    board_of_lem : board width node_front prop_front blob ≡ board_of width blob accepted.cpus
    board_of_lem =
        let cpus = accepted.cpus in
        rw (
          front_back (node_words no_parent 0 cpus) nodes accepted.node_table accepted.node_count,
          front_back (prop_words 0 cpus) props accepted.prop_table accepted.prop_count,
        )

    -- and of the definition
    blob_clear : (blob_answer blob (length nodes) (length props)).number ≡ 0
    blob_clear = ap (λ (a : BlobAnswer). a.number) (sym is) ∙ z

    abbrev records : Filled
    records = filled_in (blocks_of blob)

    nodes_laid : nodes' ≡ laid_over records.nodes nodes
    unfolding nodes_after
    nodes_laid = rw (eq-eqb _ 0 blob_clear) at nodes_are

    props_laid : props' ≡ laid_over records.props props
    unfolding props_after
    props_laid = rw (eq-eqb _ 0 blob_clear) at props_are

    fits : (length records.nodes ≤ length nodes) × (length records.props ≤ length props)
    fits = room blob nodes props blob_clear

    node_count : 3 * found.nodes ≡ length records.nodes
    node_count = ap (λ (a : BlobAnswer). 3 * a.nodes) is ∙ (counted blob nodes props blob_clear).0

    prop_count : 5 * found.props ≡ length records.props
    prop_count = ap (λ (a : BlobAnswer). 5 * a.props) is ∙ (counted blob nodes props blob_clear).1

    board_in_lem : board width node_front prop_front blob ≡ board_in width blob
    board_in_lem =
        rw (front_is records.nodes nodes nodes_laid node_count fits.0, front_is records.props props props_laid prop_count fits.1)

    pub reads :
        Bytes before →
        {r : BoardAnswer} {after : List ℕ} →
        let b = board width node_front prop_front blob in
        (r ≡ answer_of b (length before / word_size)) × ((after ≡ row_bytes b before) × Demands b (words_in before) r (words_in after)) →
        Owed r after
    unfolding image_answer image_rows
    reads small {r} {after} promised =
        let b = board width node_front prop_front blob in
        let open_blob = eq-eqb (blob_found blob).number 0 (sym number_is ∙ z) in (
          rw (open_blob, ← board_in_lem) promised.0,
          (
            rw (open_blob, ← board_in_lem) promised.1.0,
            (
              rw promised.0 (board_words b (length before / word_size)),
              record {
                refused = λ n p told. absurd (none n p told.broken);
                read = λ _. record {
                  cpus = accepted.cpus;
                  is_cpus = accepted.is_cpus;
                  only = accepted.only;
                  demands = rw (← board_of_lem) promised.1.1;
                };
                untouched = λ ne. promised.1.0 ∙ bytes_kept b before small (λ c. ne (ap (λ (a : BoardAnswer). a.number) promised.0 ∙ c));
                rest = rw promised.1.0 (bytes_rest b before);
                size = rw promised.1.0 (bytes_size b before);
              },
            ),
          ),
        )
