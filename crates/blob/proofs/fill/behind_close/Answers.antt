-- SPDX-License-Identifier: BSD-2-Clause OR GPL-2.0-or-later
use borrow.Author.Tests.{lt-ltb, le-ltb}
use Rattle.flat.specs.answers.Fill.{has_outer}
use Rattle.blob.proofs.fill.behind_close.Goals as goal
use Rattle.blob.proofs.fill.behind_close.Goals.{else-top-gt0-via-then-top-gt0+else-top-count, else-top-gt0-via-else-top-gt0}

pub returns-then-top-count : goal.returns-then-top-count
unfolding has_outer
returns-then-top-count c = rw (lt-ltb _ _ c.if-top-gt0.true, lt-ltb _ _ c.if-top-count.true)

pub returns-else-top-gt0 : goal.returns-else-top-gt0
unfolding has_outer
returns-else-top-gt0 c =
    elim c.else-top-gt0.branch [
      | else-top-gt0-via-then-top-gt0+else-top-count w ↦ rw (lt-ltb _ _ w.if-top-gt0.true, le-ltb _ _ w.if-top-count.false)
      | else-top-gt0-via-else-top-gt0 w ↦ rw (le-ltb _ _ w.if-top-gt0.false)
    ]
