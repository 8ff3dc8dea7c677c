-- SPDX-License-Identifier: BSD-2-Clause OR GPL-2.0-or-later
-- The buffer after the writing, where it has room: the rows, and behind them what it held. Assumes nothing.
use mathlib.Core.Path.{◌≡◌}
use mathlib.Core.List.{List, ◌++◌}
use Prim.Native.Nat.{ℕ, ◌*◌, ◌≤◌, ◌<◌}
use native.Mathlib.Omega.{arith}
use lib.ListN.{length, take, drop, length-append, length-drop}
use lib.Seq.{take_at, drop_at}
use borrow.Author.Tests.{le-ltb}
use Rattle.laws.proofs.BlockLaws.{block_front}
use Rattle.layout.specs.facts.Row.{row_size, row_at}
use Rattle.rows.specs.answers.Write.{Source, rows_below, written}
use Rattle.rows.proofs.RowLaws.{rows_length}

module _ (s : Source) (before : List ℕ) (room : row_size * length s.leaves ≤ length before) where
  abbrev words : ℕ
  words = row_size * length s.leaves

  abbrev rows : List ℕ
  rows = rows_below s (length s.leaves)

  written_is : written s before ≡ rows ++ drop words before
  unfolding written
  written_is = rw (le-ltb (length before) words room)

  pub written_front : take words (written s before) ≡ rows
  written_front = rw written_is (take_at rows (drop words before) words (rows_length s (length s.leaves)))

  pub written_rest : drop words (written s before) ≡ drop words before
  written_rest = rw written_is (drop_at rows (drop words before) words (rows_length s (length s.leaves)))

  pub written_length : length (written s before) ≡ length before
  written_length = rw (written_is, length-append rows (drop words before), rows_length s (length s.leaves), length-drop words before) (omega arith)

  pub written_row : (k : ℕ) → k < length s.leaves → row_at (written s before) k ≡ row_at rows k
  written_row k lt = rw written_is (block_front row_size rows (drop words before) (length s.leaves) k (rows_length s (length s.leaves)) lt)
