-- SPDX-License-Identifier: BSD-2-Clause OR GPL-2.0-or-later
-- The rows below a number: how many words, each row, and one row more written behind them. Assumes nothing.
use mathlib.Core.Path.{◌≡◌, refl, ◌∙◌}
use mathlib.Core.Logic.{⊎_elim}
use mathlib.Core.List.{List, ◌++◌}
use Prim.Native.Nat.{ℕ, zero, suc, ◌+◌, ◌*◌, ◌-◌, ◌≤◌, ◌<◌}
use native.Mathlib.Nat.{eq-or-lt_of_le, le_of_suc-le-suc}
use native.Mathlib.Numerals.{add-one}
use native.Mathlib.Omega.{arith}
use lib.ListN.{length, get_or, drop, length-append, length-drop}
use borrow.Rule.Slice.PartMut.{mid_of, put_mid}
use Rattle.laws.proofs.BlockLaws.{block_front, block_last}
use Rattle.laws.proofs.PartLaws.{part_is, block_more}
use Rattle.layout.specs.declared.Row.{Row}
use Rattle.layout.specs.facts.Row.{row_size, row_at}
use Rattle.layout.specs.answers.Words.{row_words, with_row}
use Rattle.layout.proofs.RowLaws.{row_length, with_row_lem}
use Rattle.rows.specs.declared.NamedCpu.{NamedCpu}
use Rattle.rows.specs.answers.Leaf.{row_of}
use Rattle.rows.specs.answers.Write.{Source, named_cpu, row_number, rows_below}

pub rows_length : (s : Source) (n : ℕ) → length (rows_below s n) ≡ row_size * n
unfolding rows_below
rows_length s zero = refl
rows_length s (suc n) =
    length-append (rows_below s n) (row_words (row_number s n)) ∙ rw (rows_length s n, row_length (row_number s n)) (omega arith)

pub row_at_lem : (s : Source) (n k : ℕ) → k < n → row_at (rows_below s n) k ≡ row_words (row_number s k)
unfolding rows_below
row_at_lem s zero k lt = absurd (omega arith)
row_at_lem s (suc n) k lt = ⊎_elim last (λ l. front l (row_at_lem s n k l)) (eq-or-lt_of_le (le_of_suc-le-suc lt))
  where
    last : k ≡ n → row_at (rows_below s n ++ row_words (row_number s n)) k ≡ row_words (row_number s k)
    last e = rw e (block_last row_size (rows_below s n) (row_words (row_number s n)) n (rows_length s n) (row_length (row_number s n)))

    front :
        k < n →
        row_at (rows_below s n) k ≡ row_words (row_number s k) →
        row_at (rows_below s n ++ row_words (row_number s n)) k ≡ row_words (row_number s k)
    front l h = block_front row_size (rows_below s n) (row_words (row_number s n)) n k (rows_length s n) l ∙ h

-- row k is made of leaf k and of the cpu at the index that it names
pub number_made :
    (s : Source) (k : ℕ) {r : Row} {cpu : NamedCpu} {index : ℕ} →
    r ≡ row_of s.nodes s.pool (get_or s.leaves k 0) cpu →
    cpu ≡ named_cpu s.cpus s.regs index s.slots →
    index ≡ get_or s.named k 0 →
    r ≡ row_number s k
unfolding row_number
number_made s k e q i = e ∙ rw (q, i)

-- a part from row k on, lent to be written: one row more
pub row_more :
    (s : Source) (old xs ys : List ℕ) (k : ℕ) {r : Row} →
    xs ≡ rows_below s k ++ drop (row_size * k) old →
    r ≡ row_number s k →
    row_size * k + row_size ≤ length xs →
    ys ≡ with_row r (mid_of (row_size * k) (length xs - row_size * k) xs) →
    put_mid (row_size * k) (length xs - row_size * k) xs ys ≡ rows_below s (k + 1) ++ drop (row_size * (k + 1)) old
unfolding rows_below
row_more s old xs ys k {r} e q room h =
    block_more (row_size * k) row_size (rows_below s k) (row_words r) old xs ys (rows_length s k) e (h ∙ with_row_lem r part fits) ∙ rw (next, q, add-one)
  where
    part : List ℕ
    part = mid_of (row_size * k) (length xs - row_size * k) xs

    fits : row_size ≤ length part
    fits = rw (part_is (row_size * k) xs, length-drop (row_size * k) xs) (omega arith)

    next : row_size * k + row_size ≡ row_size * (k + 1)
    next = omega arith
