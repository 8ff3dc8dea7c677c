-- SPDX-License-Identifier: BSD-2-Clause OR GPL-2.0-or-later
-- `fill` meets its contract: each token does to the tables what `Filling` says of it. Assumes nothing.
use mathlib.Core.Path.{refl, sym, ◌∙◌}
use mathlib.Core.Logic.{⊎_elim}
use Prim.Native.Nat.{ℕ, ◌+◌, ◌<◌}
use native.Mathlib.Omega.{arith}
use lib.ListN.{length}
use Rattle.laws.proofs.TestLaws.{cond_both}
use Rattle.tables.proofs.CellLaws.{cell_lt}
use Rattle.tokens.proofs.ZeroLaws.{zero_not_before, zero_inside}
use Rattle.flat.specs.answers.Fill.{has_outer}
use Rattle.blob.proofs.FillingLaws.{filling_start, begin_told, property_told, nodes_length, props_length, node_fits, prop_fits}
use Rattle.blob.proofs.FillingLaws.{filling_begin, filling_prop, filling_nop, filling_end, filling_unsound, filling_close, filling_out}
use Rattle.blob.proofs.PutLaws.{three_words, five_words}
use Rattle.blob.proofs.fill.fill.Goals as goal

pub note_ends-requires : goal.note_ends-requires
note_ends-requires c = (omega (arith, c.requires.sizes.1), refl)

pub loop-at-init : goal.loop-at-init
loop-at-init c =
    let a = c.args in
    let p = c.requires in
    filling_start a.block.now a.strings.now a.base a.first a.nodes.now a.props.now p.sizes.0 p.nodes p.props
    (λ k. omega (arith, c.type_inv.nodes k))

pub overflow_add-at : goal.overflow_add-at
overflow_add-at c = omega (arith, c.loop-at-test.true, c.loop-at.invariant.small)

pub put_record-requires : goal.put_record-requires
put_record-requires c =
    let a = c.args in
    let inv = c.loop-at.invariant in
    let is = sym c.known_at.ensures ∙ c.in-Begin.is in
    let told = begin_told a.block.now (length a.strings.now) c.loop-at.at c.in-Begin.len c.in-Begin.next is in (
      omega arith,
      (
        node_fits inv c.loop-at-test.true c.in-Begin.len c.in-Begin.next is,
        three_words inv.open_fits (omega (arith, c.loop-at-test.true, inv.small)) (omega (arith, told.0, inv.small)),
      ),
    )

pub overflow_add-count : goal.overflow_add-count
overflow_add-count c = omega (arith, c.loop-at-test.true, c.loop-at.invariant.small, c.loop-at.invariant.few_nodes)

pub loop-at-smaller-in-Begin : goal.loop-at-smaller-in-Begin
loop-at-smaller-in-Begin c =
    let a = c.args in
    let is = sym c.known_at.ensures ∙ c.in-Begin.is in
    let told = begin_told a.block.now (length a.strings.now) c.loop-at.at c.in-Begin.len c.in-Begin.next is in
    omega (arith, told.1, c.loop-at-test.true)

pub loop-at-preserved-in-Begin : goal.loop-at-preserved-in-Begin
loop-at-preserved-in-Begin c =
    filling_begin c.loop-at.invariant c.loop-at-test.true c.in-Begin.len c.in-Begin.next (sym c.known_at.ensures ∙ c.in-Begin.is)
    c.put_record.new.table c.put_record.ensures (λ k. omega (arith, c.type_inv.nodes k))

pub behind_close-at-requires : goal.behind_close-at-requires
behind_close-at-requires c = omega (arith, c.loop-at-test.true, c.loop-at.invariant.small)

pub loop-at-smaller-in-Close : goal.loop-at-smaller-in-Close
loop-at-smaller-in-Close c =
    let l = c.loop-at in
    let end = length c.args.block.now in
    let ahead = cond_both (λ (x : ℕ). l.at < x) (has_outer l.top l.count) (l.at + 4) end (λ e. omega arith) (λ e. c.loop-at-test.true) in
    omega (arith, c.behind_close-at.ensures, ahead, c.loop-at-test.true)

pub loop-at-preserved-in-Close : goal.loop-at-preserved-in-Close
loop-at-preserved-in-Close c =
    let again = filling_close c.loop-at.invariant c.loop-at-test.true (sym c.known_at.ensures ∙ c.in-Close.is) in
    rw c.node_word-top.ensures (again c.behind_close-at.result c.behind_close-at.ensures)

pub name_end-requires : goal.name_end-requires
name_end-requires c =
    record { size = omega (arith, c.requires.sizes.1); ends = λ j le lt. c.note_ends.ensures j (omega arith) lt }

pub overflow_sub-len : goal.overflow_sub-len
overflow_sub-len c = omega (arith, c.name_end.ensures, zero_not_before c.args.strings.now c.in-Property.name)

pub overflow_add-base : goal.overflow_add-base
overflow_add-base c =
    let a = c.args in
    let p = c.in-Property in
    let told = property_told a.block.now (length a.strings.now) c.loop-at.at p.name p.size p.next (sym c.known_at.ensures ∙ p.is) in
    omega (arith, told.0, c.requires.sizes.1)

pub overflow_add-at-in-Property : goal.overflow_add-at-in-Property
overflow_add-at-in-Property c = omega (arith, c.loop-at-test.true, c.loop-at.invariant.small)

pub put_record-requires-in-Property : goal.put_record-requires-in-Property
put_record-requires-in-Property c =
    let a = c.args in
    let p = c.in-Property in
    let inv = c.loop-at.invariant in
    let is = sym c.known_at.ensures ∙ p.is in
    let told = property_told a.block.now (length a.strings.now) c.loop-at.at p.name p.size p.next is in
    let name_in = told.0 in
    let strings_in = c.requires.sizes.1 in
    let stop = zero_inside a.strings.now p.name (omega arith) in (
      omega arith,
      (
        prop_fits inv c.loop-at-test.true p.name p.size p.next is,
        five_words inv.open_fits (omega (arith, name_in, strings_in)) (omega (arith, strings_in, stop, c.name_end.ensures))
            (omega (arith, c.loop-at-test.true, inv.small))
            (omega (arith, told.1, cell_lt a.block.now (c.loop-at.at + 4) (λ k. omega (arith, c.type_inv.block k)))),
      ),
    )

pub overflow_add-owned : goal.overflow_add-owned
overflow_add-owned c = omega (arith, c.loop-at-test.true, c.loop-at.invariant.small, c.loop-at.invariant.few_props)

pub loop-at-smaller-in-Property : goal.loop-at-smaller-in-Property
loop-at-smaller-in-Property c =
    let a = c.args in
    let p = c.in-Property in
    let told = property_told a.block.now (length a.strings.now) c.loop-at.at p.name p.size p.next (sym c.known_at.ensures ∙ p.is) in
    omega (arith, told.2, c.loop-at-test.true)

pub loop-at-preserved-in-Property : goal.loop-at-preserved-in-Property
loop-at-preserved-in-Property c =
    let p = c.in-Property in
    filling_prop c.loop-at.invariant c.loop-at-test.true p.name p.size p.next (sym c.known_at.ensures ∙ p.is) c.put_record-in-Property.new.table
    (rw c.name_end.ensures at c.put_record-in-Property.ensures)

pub overflow_add-at-in-Nop : goal.overflow_add-at-in-Nop
overflow_add-at-in-Nop c = omega (arith, c.loop-at-test.true, c.loop-at.invariant.small)

pub loop-at-smaller-in-Nop : goal.loop-at-smaller-in-Nop
loop-at-smaller-in-Nop c = omega (arith, c.loop-at-test.true)

pub loop-at-preserved-in-Nop : goal.loop-at-preserved-in-Nop
loop-at-preserved-in-Nop c = filling_nop c.loop-at.invariant c.loop-at-test.true (sym c.known_at.ensures ∙ c.in-Nop.is)

pub loop-at-smaller : goal.loop-at-smaller
loop-at-smaller c = omega (arith, c.loop-at-test.true)

pub loop-at-preserved : goal.loop-at-preserved
loop-at-preserved c =
    let at_end = sym c.known_at.ensures in
    ⊎_elim
    (λ e. filling_end c.loop-at.invariant c.loop-at-test.true (at_end ∙ e))
    (λ e. filling_unsound c.loop-at.invariant c.loop-at-test.true (at_end ∙ e))
    c.in-End.is

pub shape_of-nodes : goal.shape_of-nodes
shape_of-nodes c = nodes_length c.loop-at.invariant

pub shape_of-props : goal.shape_of-props
shape_of-props c = props_length c.loop-at.invariant

pub returns : goal.returns
returns c = let out = filling_out c.loop-at.invariant (omega arith) in record { nodes = out.0; props = out.1 }
