-- SPDX-License-Identifier: BSD-2-Clause OR GPL-2.0-or-later
-- `key_of` tells the key that a name is. Assumes nothing.
use mathlib.Core.Path.{sym, ◌∙◌}
use Rattle.property_index.specs.answers.Index.{key_of}
use Rattle.property_index.proofs.name.key_of.Goals as goal

pub returns-then-range_names : goal.returns-then-range_names
unfolding key_of
returns-then-range_names c = rw (sym c.range_names.ensures ∙ c.if-range_names.true)

pub returns-then-range_names-2 : goal.returns-then-range_names-2
unfolding key_of
returns-then-range_names-2 c = rw (sym c.range_names.ensures ∙ c.if-range_names.false, sym c.range_names-2.ensures ∙ c.if-range_names-2.true)

pub returns-then-range_names-3 : goal.returns-then-range_names-3
unfolding key_of
returns-then-range_names-3 c =
    rw (
      sym c.range_names.ensures ∙ c.if-range_names.false,
      sym c.range_names-2.ensures ∙ c.if-range_names-2.false,
      sym c.range_names-3.ensures ∙ c.if-range_names-3.true,
    )

pub returns-then-range_names-4 : goal.returns-then-range_names-4
unfolding key_of
returns-then-range_names-4 c =
    rw (
      sym c.range_names.ensures ∙ c.if-range_names.false,
      sym c.range_names-2.ensures ∙ c.if-range_names-2.false,
      sym c.range_names-3.ensures ∙ c.if-range_names-3.false,
      sym c.range_names-4.ensures ∙ c.if-range_names-4.true,
    )

pub returns : goal.returns
unfolding key_of
returns c =
    rw (
      sym c.range_names.ensures ∙ c.if-range_names.false,
      sym c.range_names-2.ensures ∙ c.if-range_names-2.false,
      sym c.range_names-3.ensures ∙ c.if-range_names-3.false,
      sym c.range_names-4.ensures ∙ c.if-range_names-4.false,
    )
