-- SPDX-License-Identifier: BSD-2-Clause OR GPL-2.0-or-later
-- `read_board` reads with the rows in place of the properties, and writes them as bytes. Assumes nothing.
use mathlib.Core.Path.{refl, sym, subst}
use Prim.Native.Nat.{ℕ, ◌*◌, ◌≤◌, ◌<◌, ◌^◌}
use native.Mathlib.Omega.{arith}
use lib.ListN.{length, take, get_or}
use lib.Seq.{length-take-le}
use Rattle.std.proofs.lemmas.Result.{err_from_is_err_and}
use Rattle.laws.proofs.ToldLaws.{rule_counts}
use Rattle.layout.specs.facts.Row.{row_size}
use Rattle.tables.specs.facts.Board.{Board, WordSized, board}
use Rattle.demands.specs.facts.Told.{BoardAnswer}
use Rattle.demands.proofs.BoundLaws.{answer_count}
use Rattle.loader.proofs.RowLaws.{part_words, read_bytes, kept_bytes}
use Rattle.loader.proofs.image.read_board.Goals as goal
use Rattle.loader.proofs.image.read_board.Goals.{After-slice_known-2-1, After-read_in_place, In_ok-made}

module _ (c : After-read_in_place) where
  abbrev the_board : Board
  the_board = board c.args.width c.args.nodes.now (take c.args.words c.args.table.now) c.args.blob.now

  -- its words are words and its bytes are bytes
  sized : ((i : ℕ) → get_or c.args.table.now i 0 < 2 ^ 32) → WordSized the_board
  sized words =
      record {
        words_of_nodes = λ i. omega (arith, c.type_inv.nodes i);
        words_of_props = part_words c.args.words c.args.table.now words;
        bytes = λ i. omega (arith, c.type_inv.blob i);
      }

-- no more rows than the table has room for
module _ (c : In_ok-made) where
  few : c.in_ok-made.made.count ≤ 256
  few =
      subst (λ (a : BoardAnswer). a.count ≤ 256) (sym c.in_ok-made.ensures.answer)
      (answer_count (board c.args.width c.args.nodes.now (take c.args.words c.args.table.now) c.args.blob.now) _)

  rows_in : row_size * c.in_ok-made.made.count ≤ length c.read_in_place.new.table
  rows_in = omega (arith, few, c.read_in_place.auto.table, c.requires)

pub returns-in_err-made : goal.returns-in_err-made
returns-in_err-made c =
    let at = goal.at.returns-in_err-made c in
    let words : (i : ℕ) → get_or c.args.table.now i 0 < 2 ^ 32 = λ i. omega (arith, at.After-slice_known-2-1.type_inv.table i) in
    let refusal = err_from_is_err_and c.from_residual.result c.from_residual.ensures.1 in
    let t =
    kept_bytes (sized at.After-read_in_place words) c.args.rows.now (λ i. omega (arith, c.type_inv.rows i)) c.args.table.now c.requires
    (rule_counts c.in_err-made.field-0.0.rule)
    c.in_err-made.ensures.answer in
    rw (refusal.1, refusal.2) (record { answer = t.0; rows = t.1.0; demands = t.1.1 })

pub overflow_mul-written : goal.overflow_mul-written
overflow_mul-written c = omega (arith, few (goal.at.overflow_mul-written c).In_ok-made)

pub slice_bounds-put_words-end : goal.slice_bounds-put_words-end
slice_bounds-put_words-end c = rows_in (goal.at.slice_bounds-put_words-end c).In_ok-made

pub slice_bounds-put_words-end-2 : goal.slice_bounds-put_words-end-2
slice_bounds-put_words-end-2 c = sym (length-take-le _ _ (rows_in (goal.at.slice_bounds-put_words-end-2 c).In_ok-made))

pub returns : goal.returns
returns c =
    let at = goal.at.returns c in
    let words : (i : ℕ) → get_or c.args.table.now i 0 < 2 ^ 32 = λ i. omega (arith, at.After-slice_known-2-1.type_inv.table i) in
    let read = c.in_ok-made.ensures in
    let t =
    read_bytes (sized at.After-read_in_place words) c.args.rows.now (λ i. omega (arith, at.After-read_in_place.type_inv.rows i)) c.args.table.now
    c.requires
    refl
    (read.answer, read.rows)
    (λ i. omega (arith, at.In_ok-made.type_inv.table i))
    c.put_words.ensures in
    record { answer = t.0; rows = t.1.0; demands = t.1.1 }
