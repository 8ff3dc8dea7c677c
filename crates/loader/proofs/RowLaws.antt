-- SPDX-License-Identifier: BSD-2-Clause OR GPL-2.0-or-later
-- Rows as bytes: those that the code writes are those of the definition, and the words that they hold are the library's. Assumes nothing.
use mathlib.Core.Path.{◌≡◌, refl, sym, ap, ◌∙◌}
use mathlib.Core.Logic.{⊎_elim}
use mathlib.Core.Bool.{Bool, true, false}
use mathlib.Core.List.{List, ◌++◌}
use Prim.Native.Nat.{ℕ, ◌*◌, ◌/◌, ◌^◌, ◌≤◌, ◌<◌, min}
use native.Mathlib.Omega.{arith}
use lib.Dec.{eqb, lit<}
use lib.ListN.{length, get_or, take, drop, length-append, length-drop, length-take, get_or-eq_default}
use lib.Seq.{drop_at, get_or-take}
use borrow.Author.Tests.{eq-eqb, ne_eqb, lt-ltb, le-ltb}
use Rattle.laws.specs.facts.Limits.{max_cpus}
use Rattle.laws.specs.facts.Told.{Fault}
use Rattle.laws.proofs.SearchLaws.{lt_or_le}
use Rattle.layout.specs.facts.Row.{row_size}
use Rattle.wire.specs.facts.Bytes.{word_size, in_bytes, words_in}
use Rattle.wire.specs.answers.Put.{with_words}
use Rattle.wire.proofs.ByteLaws.{in_length, words_length, words_back, words_laid, words_read, with_words_lem}
use Rattle.tables.specs.facts.Board.{Board, WordSized}
use Rattle.cpus.specs.answers.Check.{cpu_count}
use Rattle.rows.specs.answers.Slots.{board_hash}
use Rattle.rows.specs.answers.Write.{Source, rows_below, written, source_of}
use Rattle.rows.proofs.RowLaws.{rows_length}
use Rattle.rows.proofs.SourceMeans.{leaf_count}
use Rattle.rows.proofs.WrittenLaws.{written_front}
use Rattle.demands.specs.facts.Told.{BoardAnswer}
use Rattle.demands.specs.facts.Reading.{Demands}
use Rattle.demands.specs.answers.Answer.{board_fault, rows_by, answer_of, rows_after}
use Rattle.demands.proofs.AnswerLaws.{by_number}
use Rattle.demands.proofs.Claim.{demands, rows_many}
use Rattle.loader.specs.answers.Image.{row_bytes}
use Rattle.loader.proofs.RoomLaws.{same_fault, same_answer, accepted_few}

-- all bytes of a list, and all words of one
abbrev pub Bytes : List ℕ → Type 0
Bytes l = (i : ℕ) → get_or l i 0 < 256

abbrev pub Words : List ℕ → Type 0
Words l = (i : ℕ) → get_or l i 0 < 2 ^ 32

-- the length of the row buffer stays
written_size : (s : Source) (before : List ℕ) → length (written s before) ≡ length before
unfolding written
written_size s before =
    let n = length s.leaves in
    ⊎_elim
    (λ short. rw (lt-ltb (length before) (row_size * n) short))
    (λ room.
    rw (
      le-ltb (length before) (row_size * n) room,
      length-append (rows_below s n) (drop (row_size * n) before),
      rows_length s n,
      length-drop (row_size * n) before,
    ) (omega arith))
    (lt_or_le (length before) (row_size * n))

module _ (b : Board) (before : List ℕ) where
  after_size : length (rows_after b before) ≡ length before
  unfolding rows_after
  after_size = go (eqb (board_fault b (length before)).number 0) refl
    where
      go :
          (t : Bool) →
          eqb (board_fault b (length before)).number 0 ≡ t →
          length (rows_by (board_fault b (length before)) (source_of b) before) ≡ length before
      go true e = rw e (written_size (source_of b) before)
      go false e = rw e

module _ (b : Board) (bytes : List ℕ) where
  abbrev room : ℕ
  room = length bytes / word_size

  abbrev front : List ℕ
  front = in_bytes word_size (rows_after b (words_in bytes))

  front_size : length front ≡ word_size * room
  front_size =
      in_length word_size (rows_after b (words_in bytes)) ∙ ap (λ (n : ℕ). word_size * n) (after_size b (words_in bytes) ∙ words_length bytes)

  -- the bytes behind the last whole word, and how many there are in all
  pub bytes_rest : drop (word_size * room) (row_bytes b bytes) ≡ drop (word_size * room) bytes
  bytes_rest = drop_at front (drop (word_size * room) bytes) (word_size * room) front_size

  pub bytes_size : length (row_bytes b bytes) ≡ length bytes
  bytes_size = rw (length-append front (drop (word_size * room) bytes), front_size, length-drop (word_size * room) bytes) (omega arith)

-- a part of a list of words
pub part_words : (n : ℕ) (l : List ℕ) → Words l → Words (take n l)
part_words n l small i =
    ⊎_elim
    (λ lt. rw (get_or-take n l i 0 lt) (small i))
    (λ le. let out : length (take n l) ≤ i = omega (arith, length-take n l) in rw (get_or-eq_default (take n l) 0 out) (lit< tt))
    (lt_or_le i n)

-- what is told for so many whole words
module _ (b : Board) (bytes : List ℕ) (small : Bytes bytes) where
  abbrev words : List ℕ
  words = words_in bytes

  abbrev told : Fault
  told = board_fault b (room b bytes)

  words_told : board_fault b (length words) ≡ told
  words_told = ap (board_fault b) (words_length bytes)

  -- a refusal leaves every byte
  module _ (ne : told.number ≡ 0 → ⊥) where
    after_same : rows_after b words ≡ words
    unfolding rows_after
    after_same = rw (words_told, ne_eqb told.number 0 ne)

    bytes_same : row_bytes b bytes ≡ bytes
    bytes_same = rw after_same (words_back bytes small)

  pub bytes_kept : ((answer_of b (room b bytes)).number ≡ 0 → ⊥) → row_bytes b bytes ≡ bytes
  unfolding answer_of
  bytes_kept ne = bytes_same (λ z. ne (by_number told (cpu_count b) (board_hash b) ∙ z))

-- what the code leaves in the table where the rows are made, and writes as bytes
module _ {b : Board} (sized : WordSized b) (bytes : List ℕ) (small : Bytes bytes) where
  abbrev held : List ℕ
  held = words_in bytes

  -- an acceptance writes the rows, at the front of a table that has room for them
  module _
      (z : (told b bytes small).number ≡ 0)
      (table : List ℕ) (enough : row_size * max_cpus ≤ length table) (table_small : Words (written (source_of b) table)) where
    abbrev s : Source
    s = source_of b

    many : (leaf_count b ≡ cpu_count b) × (row_size * cpu_count b ≤ length held)
    many = rows_many sized held (ap (λ (f : Fault). f.number) (words_told b bytes small) ∙ z)

    abbrev rows : List ℕ
    rows = rows_below s (leaf_count b)

    rows_size : length rows ≡ row_size * cpu_count b
    rows_size = rows_length s (leaf_count b) ∙ ap (λ (n : ℕ). row_size * n) many.0

    rows_made : take (row_size * cpu_count b) (written s table) ≡ rows
    rows_made = ap (λ (n : ℕ). take (row_size * n) (written s table)) (sym many.0) ∙ written_front s table (omega (arith, many.0, few_rows))
      where
        few_rows : cpu_count b ≤ max_cpus
        few_rows = accepted_few b (room b bytes) z

    fits : word_size * length rows ≤ length bytes
    fits = omega (arith, rows_size, many.1, words_length bytes)

    after_is : rows_after b held ≡ rows ++ drop (length rows) held
    unfolding rows_after written
    after_is =
        let same = rows_length s (leaf_count b) in
        let has_room = le-ltb (length held) (row_size * leaf_count b) (omega (arith, many)) in
        rw (words_told b bytes small, eq-eqb (told b bytes small).number 0 z, has_room, same)

    rows_small : Words rows
    rows_small = rw rows_made at (part_words (row_size * cpu_count b) (written s table) table_small)

    pub bytes_written : with_words (take (row_size * cpu_count b) (written s table)) bytes ≡ row_bytes b bytes
    bytes_written = rw (rows_made, after_is, with_words_lem rows bytes fits) (sym (words_laid rows bytes small fits))

    pub words_written : words_in (row_bytes b bytes) ≡ rows_after b held
    words_written = rw (after_is, words_laid rows bytes small fits) (words_read rows bytes rows_small fits)

  -- what the parts of the reading come to
  module _ (table : List ℕ) (enough : row_size * max_cpus ≤ length table) where
    abbrev most : ℕ
    most = min (room b bytes) (length table)

    owed :
        {r : BoardAnswer} {rows : List ℕ} →
        r ≡ answer_of b (room b bytes) →
        rows ≡ row_bytes b bytes →
        words_in (row_bytes b bytes) ≡ rows_after b held →
        (r ≡ answer_of b (room b bytes)) × ((rows ≡ row_bytes b bytes) × Demands b held r (words_in rows))
    owed e wrote read =
        let as_words = e ∙ ap (answer_of b) (sym (words_length bytes)) in
        (e, (wrote, rw (as_words, wrote, read) (demands sized held)))

    -- an acceptance
    pub read_bytes :
        {r : BoardAnswer} {made rows : List ℕ} →
        r.number ≡ 0 →
        (r ≡ answer_of b most) × (made ≡ rows_by (board_fault b most) (source_of b) table) →
        Words made →
        rows ≡ with_words (take (row_size * r.count) made) bytes →
        (r ≡ answer_of b (room b bytes)) × ((rows ≡ row_bytes b bytes) × Demands b held r (words_in rows))
    unfolding answer_of
    read_bytes {r} {made} {rows} accepted promised made_small wrote =
        owed is (rw (written_is, count_is) at wrote ∙ bytes_written z table enough table_small) (words_written z table enough table_small)
      where
        is : r ≡ answer_of b (room b bytes)
        is = promised.0 ∙ same_answer b (room b bytes) (length table) enough

        z : (told b bytes small).number ≡ 0
        z = sym (ap (λ (a : BoardAnswer). a.number) is ∙ by_number (told b bytes small) (cpu_count b) (board_hash b)) ∙ accepted

        clear : eqb (told b bytes small).number 0 ≡ true
        clear = eq-eqb (told b bytes small).number 0 z

        written_is : made ≡ written (source_of b) table
        written_is = promised.1 ∙ ap (λ (f : Fault). rows_by f (source_of b) table) (same_fault b (room b bytes) (length table) enough) ∙ rw clear

        count_is : r.count ≡ cpu_count b
        count_is = ap (λ (a : BoardAnswer). a.count) is ∙ rw clear

        table_small : Words (written (source_of b) table)
        table_small = rw written_is at made_small

    -- a refusal
    pub kept_bytes :
        {r : BoardAnswer} →
        (r.number ≡ 0 → ⊥) →
        r ≡ answer_of b most →
        (r ≡ answer_of b (room b bytes)) × ((bytes ≡ row_bytes b bytes) × Demands b held r (words_in bytes))
    unfolding answer_of
    kept_bytes {r} refused promised = owed is (sym same) (ap (λ (l : List ℕ). words_in l) same ∙ sym (after_same b bytes small ne))
      where
        is : r ≡ answer_of b (room b bytes)
        is = promised ∙ same_answer b (room b bytes) (length table) enough

        ne : (told b bytes small).number ≡ 0 → ⊥
        ne z = refused (ap (λ (a : BoardAnswer). a.number) is ∙ by_number (told b bytes small) (cpu_count b) (board_hash b) ∙ z)

        same : row_bytes b bytes ≡ bytes
        same = bytes_same b bytes small ne
