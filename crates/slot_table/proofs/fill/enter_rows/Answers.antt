-- SPDX-License-Identifier: BSD-2-Clause OR GPL-2.0-or-later
-- `enter_rows` enters each row at its slot. Assumes nothing.
use mathlib.Core.Path.{sym, ◌∙◌}
use lib.ListN.{length-set}
use Rattle.std.proofs.Common.{rules}
use Rattle.layout.specs.facts.Row.{slot_at}
use Rattle.slot_table.specs.answers.Table.{entered_below}
use Rattle.slot_table.proofs.TableLaws.{row_rest, row_within, row_slot_at, entered_yes, entered_no}
use Rattle.slot_table.proofs.fill.enter_rows.Goals as goal

pub loop-k-init : goal.loop-k-init
unfolding entered_below
loop-k-init c = search rules

pub loop-k-preserved-then-slot-size : goal.loop-k-preserved-then-slot-size
loop-k-preserved-then-slot-size c =
    let a = c.args in
    let inv = c.loop-k.invariant in
    let row = c.in-Some.row.now in
    let steps = c.in-Some.ensures.steps in
    let left = sym inv.rest ∙ steps.0.1.0 in
    let whole = steps.0.1.1 ∙ inv.whole in
    let slot = row_slot_at a.rows.now _ row _ left whole in
    rw steps.2
    (record {
      whole = steps.0.0 ∙ inv.whole;
      rest = row_rest a.rows.now _ row _ left whole;
      within = row_within a.rows.now _ row _ left whole inv.within;
      room = inv.room;
      kept = length-set c.loop-k.table _ _ ∙ inv.kept;
      entered = rw (slot, steps.1) (entered_yes (slot_at a.rows.now) a.size _ a.table.now inv.entered (rw slot at c.if-slot-size.true));
    })

pub loop-k-preserved : goal.loop-k-preserved
loop-k-preserved c =
    let a = c.args in
    let inv = c.loop-k.invariant in
    let row = c.in-Some.row.now in
    let steps = c.in-Some.ensures.steps in
    let left = sym inv.rest ∙ steps.0.1.0 in
    let whole = steps.0.1.1 ∙ inv.whole in
    let slot = row_slot_at a.rows.now _ row _ left whole in
    rw steps.2
    (record {
      whole = steps.0.0 ∙ inv.whole;
      rest = row_rest a.rows.now _ row _ left whole;
      within = row_within a.rows.now _ row _ left whole inv.within;
      room = inv.room;
      kept = inv.kept;
      entered = entered_no (slot_at a.rows.now) a.size _ a.table.now inv.entered (rw slot at c.if-slot-size.false);
    })
