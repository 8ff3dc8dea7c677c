-- SPDX-License-Identifier: BSD-2-Clause OR GPL-2.0-or-later
-- `check_root` meets its contract: each answer is the definition's at what its tests give. Assumes nothing.
use Rattle.std.specs.Prelude.{Option, Some}
use mathlib.Core.Path.{◌≡◌, sym, ◌∙◌}
use mathlib.Core.Bool.{Bool, true, cond}
use Prim.Native.Nat.{ℕ}
use Rattle.std.proofs.lemmas.Result.{err_from_is_err_and}
use Rattle.tables.specs.declared.Found.{Found}
use Rattle.tables.specs.answers.Lookup.{lookup}
use Rattle.tables.specs.answers.Range.{range_is}
use Rattle.tables.specs.facts.Binding.{size_cells_key, cpus_word}
use Rattle.tables.specs.facts.Board.{Board, board_of, name_offset, name_length}
use Rattle.cpus.specs.declared.Cells.{Cells}
use Rattle.cpus.specs.answers.Check.{address_cells, name_fault, told_of_root, root_fault}
use Rattle.cpus.specs.answers.Cell.{cell_in, cell_of, is_number}
use Rattle.cpus.proofs.OptionLaws.{ok_or_err, ok_or_ok, number_not, number_is}
use Rattle.cpus.proofs.root.check_root.Goals as goal

module _ (b : Board) where
  name-sound : {test : Bool} → test ≡ range_is b.pool (name_offset b.nodes 0) (name_length b.nodes 0) cpus_word → test ≡ true → name_fault b ≡ 0
  name-sound t e = rw (sym t ∙ e)

  -- what is told where the name and `#address-cells` are sound
  size-left :
      {allowed : Option Cells} {cells : Cells} {size : Option Found} {value : Option ℕ} {test : Bool} →
      name_fault b ≡ 0 →
      allowed ≡ address_cells b →
      allowed ≡ Some cells →
      size ≡ lookup b.props b.pool 0 size_cells_key →
      value ≡ cell_in b.pool size →
      is_number value 0 ≡ test →
      root_fault b ≡ told_of_root b (cond test 0 37) size_cells_key
  unfolding root_fault cell_of
  size-left n a e s v t = rw (n, sym a ∙ e, ← s, ← v, t)

pub returns-then-not-name_is : goal.returns-then-not-name_is
unfolding root_fault
returns-then-not-name_is c width found read = rw (c.at.ensures, ← c.name_is.ensures, c.if-not-name_is.true)

pub returns-in_err-ok_or : goal.returns-in_err-ok_or
unfolding root_fault
returns-in_err-ok_or c width found read =
    let p = err_from_is_err_and c.from_residual.result c.from_residual.ensures.1 in
    let q = ok_or_err c.args.allowed c.refusal_of.result c.in_err-ok_or.field-0.0 c.in_err-ok_or.ensures.value in
    let name = name-sound (board_of width c.args.tables.now) c.name_is.ensures c.if-not-name_is.false in
    rw (p.1, p.2, q.1) (rw (c.refusal_of.ensures, found, name, sym read ∙ q.0))

pub returns-then-ne : goal.returns-then-ne
returns-then-ne c width found read =
    let b = board_of width c.args.tables.now in
    let name = name-sound b c.name_is.ensures c.if-not-name_is.false in
    let allowed = ok_or_ok c.args.allowed c.refusal_of.result c.in_ok-ok_or.field-0 c.in_ok-ok_or.ensures.value in
    let size = c.find_property-size.ensures.answer in
    rw (
      c.refusal_of-then-ne.ensures,
      size,
      size-left b name read allowed size c.cell_in.ensures (number_not c.cell_in.result 0 c.ne.ensures c.if-ne.true),
    )

pub returns : goal.returns
returns c width found read =
    let b = board_of width c.args.tables.now in
    let name = name-sound b c.name_is.ensures c.if-not-name_is.false in
    let allowed = ok_or_ok c.args.allowed c.refusal_of.result c.in_ok-ok_or.field-0 c.in_ok-ok_or.ensures.value in
    rw (size-left b name read allowed c.find_property-size.ensures.answer c.cell_in.ensures (number_is c.cell_in.result 0 c.ne.ensures c.if-ne.false))
