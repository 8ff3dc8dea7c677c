-- SPDX-License-Identifier: BSD-2-Clause OR GPL-2.0-or-later
-- `note_key` meets its contract. Assumes nothing.
use borrow.Author.Tests.{lt-ltb, le-ltb}
use Rattle.property_index.specs.answers.Index.{noted_key}
use Rattle.property_index.proofs.KeyLaws.{number_lt}
use Rattle.property_index.proofs.index.note_key.Goals as goal

pub returns-then-node-ge-MAX_NODES : goal.returns-then-node-ge-MAX_NODES
unfolding noted_key
returns-then-node-ge-MAX_NODES c = rw (le-ltb _ _ c.if-node-ge-MAX_NODES.true)

pub returns-in-Some : goal.returns-in-Some
unfolding noted_key
returns-in-Some c =
    rw (lt-ltb _ _ c.if-node-ge-MAX_NODES.false, ← c.in-Some.ensures, lt-ltb _ _ (number_lt c.in-Some.key), ← c.number.ensures) c.note.ensures

pub returns-in_default : goal.returns-in_default
unfolding noted_key
returns-in_default c = rw (lt-ltb _ _ c.if-node-ge-MAX_NODES.false, ← c.in_default.ensures)
