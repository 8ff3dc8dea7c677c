-- SPDX-License-Identifier: BSD-2-Clause OR GPL-2.0-or-later
-- `is_property` compares a property's node, and then its name. Assumes nothing.
use mathlib.Core.Path.{◌∙◌}
use Prim.Native.Nat.{◌*◌}
use borrow.Author.Tests.{eq-eqb, ne_eqb}
use Rattle.tables.specs.answers.Lookup.{is_property}
use Rattle.tables.proofs.CodePool.{word_zero}
use Rattle.tables.proofs.property.is_property.Goals as goal

pub returns-then-prop_word-node : goal.returns-then-prop_word-node
unfolding is_property
returns-then-prop_word-node c =
    let node = c.prop_word.ensures ∙ word_zero c.args.props.now (5 * c.args.k) in
    rw (← node, eq-eqb _ _ c.if-prop_word-node.true)
    (rw (c.prop_word-then-prop_word-node.ensures, c.prop_word-then-prop_word-node-2.ensures) at c.range_is.ensures)

pub returns-else-prop_word-node : goal.returns-else-prop_word-node
unfolding is_property
returns-else-prop_word-node c =
    let node = c.prop_word.ensures ∙ word_zero c.args.props.now (5 * c.args.k) in
    rw (← node, ne_eqb _ _ c.if-prop_word-node.false)
