-- SPDX-License-Identifier: BSD-2-Clause OR GPL-2.0-or-later
-- `is_child` meets its contract. Assumes nothing.
use mathlib.Core.Path.{◌∙◌}
use borrow.Author.Tests.{lt-ltb, le-ltb}
use Rattle.laws.proofs.SearchLaws.{true_false}
use Rattle.tables.specs.answers.Tree.{is_child}
use Rattle.tables.proofs.CodeTree.{word_test}
use Rattle.tables.proofs.tree.is_child.Goals as goal
use Rattle.tables.proofs.tree.is_child.Goals.{then-i-nodes, else-i-nodes}

pub returns-then-node_word-p : goal.returns-then-node_word-p
unfolding is_child
returns-then-node_word-p c =
    elim c.if-i-nodes.branch [
      | then-i-nodes w ↦
          rw (lt-ltb _ _ w.if-i-nodes.true, word_test c.args.nodes.now _ _ _ w.node_word.ensures w.value-is ∙ c.if-node_word-p.true)
      | else-i-nodes w ↦ absurd (true_false c.if-node_word-p.true (w.value-is ∙ le-ltb _ _ w.if-i-nodes.false))
    ]

pub returns-else-node_word-p : goal.returns-else-node_word-p
unfolding is_child
returns-else-node_word-p c =
    elim c.if-i-nodes.branch [
      | then-i-nodes w ↦
          c.if-node_word-p.false
          ∙ rw (lt-ltb _ _ w.if-i-nodes.true, word_test c.args.nodes.now _ _ _ w.node_word.ensures w.value-is ∙ c.if-node_word-p.false)
      | else-i-nodes w ↦ c.if-node_word-p.false ∙ rw (le-ltb _ _ w.if-i-nodes.false)
    ]
