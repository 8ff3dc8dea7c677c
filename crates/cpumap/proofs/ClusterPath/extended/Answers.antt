-- SPDX-License-Identifier: BSD-2-Clause OR GPL-2.0-or-later
-- `extended` meets its contract: one number more, or the path as it is where it is full. Assumes nothing.
use borrow.Author.Tests.{lt-ltb, le-ltb}
use Rattle.cpumap.specs.answers.Path.{extend}
use Rattle.cpumap.proofs.ClusterPath.extended.Goals as goal

pub returns-then-depth-lt4 : goal.returns-then-depth-lt4
unfolding extend
returns-then-depth-lt4 c = rw (lt-ltb _ _ c.if-depth-lt4.true)

pub returns-else-depth-lt4 : goal.returns-else-depth-lt4
unfolding extend
returns-else-depth-lt4 c = rw (le-ltb _ _ c.if-depth-lt4.false)
