-- SPDX-License-Identifier: BSD-2-Clause OR GPL-2.0-or-later
-- `count_answer` meets its contract. Assumes nothing.
use mathlib.Core.Path.{◌≡◌}
use Prim.Native.Nat.{◌*◌}
use native.Mathlib.Omega.{arith}
use borrow.Author.Tests.{lt-ltb, le-ltb, eq-eqb, ne_eqb}
use Rattle.flat.specs.answers.Answer.{count_answer}
use Rattle.blob.proofs.count.count_answer.Goals as goal
use Rattle.blob.proofs.count.count_answer.Goals.{then-nodes-w-via-then-nodes-w, then-nodes-w-via-else-nodes-w+then-props-w}

pub returns-then-w-ne1 : goal.returns-then-w-ne1
unfolding count_answer
returns-then-w-ne1 c = rw (ne_eqb c.args.w.cpus 1 (λ e. omega (arith, c.if-w-ne1.true, e)))

pub returns-then-nodes-w : goal.returns-then-nodes-w
unfolding count_answer
returns-then-nodes-w c =
    let a = c.args in
    let one : a.w.cpus ≡ 1 = omega (arith, c.if-w-ne1.false) in
    elim c.then-nodes-w.branch [
      | then-nodes-w-via-then-nodes-w w ↦ rw (eq-eqb _ _ one, lt-ltb a.nodes (3 * a.w.nodes) (omega (arith, w.if-nodes-w.true)))
      | then-nodes-w-via-else-nodes-w+then-props-w w ↦
          rw (
            eq-eqb _ _ one,
            le-ltb a.nodes (3 * a.w.nodes) (omega (arith, w.if-nodes-w.false)),
            lt-ltb a.props (5 * a.w.props) (omega (arith, w.if-props-w.true)),
          )
    ]

pub returns : goal.returns
unfolding count_answer
returns c =
    let a = c.args in
    let one : a.w.cpus ≡ 1 = omega (arith, c.if-w-ne1.false) in
    rw (
      eq-eqb _ _ one,
      le-ltb a.nodes (3 * a.w.nodes) (omega (arith, c.if-nodes-w.false)),
      le-ltb a.props (5 * a.w.props) (omega (arith, c.if-props-w.false)),
    )
