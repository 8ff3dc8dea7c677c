-- SPDX-License-Identifier: BSD-2-Clause OR GPL-2.0-or-later
-- What the call on a blob answers, and what it leaves in the byte buffer.
use Rattle.std.specs.Prelude.{cond, List, ◌++◌, ℕ, ◌/◌, ◌*◌, eqb, length, drop}
use Rattle.laws.specs.answers.Fault.{plain}
use Rattle.wire.specs.facts.Bytes.{word_size, in_bytes, words_in}
use Rattle.tables.specs.facts.Board.{Board, board}
use Rattle.header.specs.facts.Header.{blocks_of}
use Rattle.flat.specs.facts.Told.{BlobAnswer}
use Rattle.flat.specs.answers.Answer.{blob_answer, filled_in}
use Rattle.demands.specs.facts.Told.{BoardAnswer}
use Rattle.demands.specs.answers.Answer.{refused_with, answer_of, rows_after}
use Rattle.loader.specs.facts.Image.{node_room, prop_room}

-- what is answered of the blob, for tables of 1,024 nodes and 1,024 properties
abbrev pub blob_found : List ℕ → BlobAnswer
blob_found blob = blob_answer blob node_room prop_room

-- the board that its records make
abbrev pub board_in : ℕ → List ℕ → Board
board_in width blob = let records = filled_in (blocks_of blob) in board width records.nodes records.props blob

-- the answer for a buffer of so many bytes: the blob's refusal, or that of the library for so many whole words
unfoldable pub image_answer : ℕ → List ℕ → ℕ → BoardAnswer
image_answer width blob room =
    let found = blob_found blob in
    cond (eqb found.number 0) (answer_of (board_in width blob) (room / word_size)) (refused_with (plain found.number found.place))

-- a byte buffer after the reading of a board: the words that the library leaves, and the bytes behind the last whole word as they were
abbrev pub row_bytes : Board → List ℕ → List ℕ
row_bytes b before = in_bytes word_size (rows_after b (words_in before)) ++ drop (word_size * (length before / word_size)) before

unfoldable pub image_rows : ℕ → List ℕ → List ℕ → List ℕ
image_rows width blob before = cond (eqb (blob_found blob).number 0) (row_bytes (board_in width blob) before) before
