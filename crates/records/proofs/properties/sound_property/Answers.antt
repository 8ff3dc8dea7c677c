-- SPDX-License-Identifier: BSD-2-Clause OR GPL-2.0-or-later
-- `sound_property` tests rule 7 of a property. Assumes nothing.
use mathlib.Core.Path.{sym, ◌∙◌}
use borrow.Author.Tests.{lt-ltb, le-ltb}
use Rattle.laws.proofs.SearchLaws.{true_false}
use Rattle.records.specs.answers.Check.{sound_words}
use Rattle.records.proofs.properties.sound_property.Goals as goal
use Rattle.records.proofs.properties.sound_property.Goals.{then-node-count, else-node-count}

pub returns-then-sound_name : goal.returns-then-sound_name
unfolding sound_words
returns-then-sound_name c =
    elim c.if-node-count.branch [
      | then-node-count w ↦
          rw (lt-ltb _ _ w.if-node-count.true, sym w.sound_name.ensures ∙ sym w.value-is ∙ c.if-sound_name.true) c.is_inside.ensures
      | else-node-count w ↦ absurd (true_false c.if-sound_name.true (w.value-is ∙ le-ltb _ _ w.if-node-count.false))
    ]

pub returns-else-sound_name : goal.returns-else-sound_name
unfolding sound_words
returns-else-sound_name c =
    elim c.if-node-count.branch [
      | then-node-count w ↦
          c.if-sound_name.false ∙ rw (lt-ltb _ _ w.if-node-count.true, sym w.sound_name.ensures ∙ sym w.value-is ∙ c.if-sound_name.false)
      | else-node-count w ↦ c.if-sound_name.false ∙ rw (le-ltb _ _ w.if-node-count.false)
    ]
