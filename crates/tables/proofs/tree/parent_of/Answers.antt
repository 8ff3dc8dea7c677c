-- SPDX-License-Identifier: BSD-2-Clause OR GPL-2.0-or-later
-- `parent_of` gives the parent of a record. Assumes nothing.
use Rattle.std.specs.Prelude.{None, Some}
use Rattle.std.specs.Bool.{then_some}
use mathlib.Core.Path.{◌≡◌, refl, ◌∙◌}
use mathlib.Core.Bool.{Bool, true, false, cond}
use Prim.Native.Nat.{ℕ}
use lib.Dec.{ltb}
use borrow.Author.Tests.{lt-ltb}
use Rattle.tables.specs.answers.Tree.{has_parent, parent_of}
use Rattle.tables.proofs.TreeLaws.{has_outside}
use Rattle.tables.proofs.tree.parent_of.Goals as goal

some_if : (w : ℕ) (b : Bool) → then_some b w ≡ cond b (Some w) None
some_if w true = refl
some_if w false = refl

pub returns-then-nodes-i : goal.returns-then-nodes-i
unfolding parent_of
returns-then-nodes-i c = rw (has_outside c.args.nodes.now c.args.i c.if-nodes-i.true)

pub returns : goal.returns
unfolding parent_of has_parent
returns c = c.then_some.ensures ∙ rw (lt-ltb _ _ c.if-nodes-i.false, ← c.wide-word.ensures) (some_if _ (ltb c.wide-word.result c.args.i))
