-- SPDX-License-Identifier: BSD-2-Clause OR GPL-2.0-or-later
-- `put_row` writes a row's words, and the rest stays; a part too short stays whole. Assumes nothing.
use mathlib.Core.Path.{sym, ◌∙◌}
use native.Mathlib.Omega.{arith}
use lib.ListN.{length, length-set}
use lib.Seq.{sets-eq}
use borrow.Author.Tests.{lt-ltb}
use Rattle.layout.specs.facts.Row.{row_size}
use Rattle.layout.specs.answers.Words.{row_words, with_row}
use Rattle.layout.proofs.RowLaws.{with_row_lem}
use Rattle.layout.proofs.put_row.Goals as goal

pub returns-then-part-lt-ROW_WORDS : goal.returns-then-part-lt-ROW_WORDS
unfolding with_row
returns-then-part-lt-ROW_WORDS c = rw (lt-ltb (length c.args.part.now) row_size (omega arith))

pub bounds-part-1 : goal.bounds-part-1
bounds-part-1 c = simp length-set (omega arith)

pub bounds-part-2 : goal.bounds-part-2
bounds-part-2 c = simp length-set (omega arith)

pub bounds-part-3 : goal.bounds-part-3
bounds-part-3 c = simp length-set (omega arith)

pub bounds-part-4 : goal.bounds-part-4
bounds-part-4 c = simp length-set (omega arith)

pub bounds-part-5 : goal.bounds-part-5
bounds-part-5 c = simp length-set (omega arith)

pub bounds-part-6 : goal.bounds-part-6
bounds-part-6 c = simp length-set (omega arith)

pub bounds-part-7 : goal.bounds-part-7
bounds-part-7 c = simp length-set (omega arith)

pub bounds-part-8 : goal.bounds-part-8
bounds-part-8 c = simp length-set (omega arith)

pub bounds-part-9 : goal.bounds-part-9
bounds-part-9 c = simp length-set (omega arith)

pub bounds-part-10 : goal.bounds-part-10
bounds-part-10 c = simp length-set (omega arith)

pub bounds-part-11 : goal.bounds-part-11
bounds-part-11 c = simp length-set (omega arith)

pub shape_of-part : goal.shape_of-part
shape_of-part c = simp length-set

pub returns : goal.returns
unfolding row_words
returns c =
    let a = c.args in
    sets-eq (row_words a.row) a.part.now 0 (omega arith) ∙ sym (with_row_lem a.row a.part.now (omega arith))
