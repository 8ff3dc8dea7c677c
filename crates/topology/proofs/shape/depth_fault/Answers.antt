-- SPDX-License-Identifier: BSD-2-Clause OR GPL-2.0-or-later
-- `depth_fault` meets its contract. Assumes nothing.
use mathlib.Core.Path.{ap}
use native.Mathlib.Omega.{arith}
use borrow.Author.Tests.{lt-ltb, le-ltb}
use Rattle.cpumap.specs.declared.Position.{Position}
use Rattle.cpumap.specs.answers.Path.{cluster_path, position_of}
use Rattle.topology.specs.answers.Check.{depth_fault}
use Rattle.cpumap.proofs.CodeLaws.{path_short}
use Rattle.topology.proofs.shape.depth_fault.Goals as goal
use Rattle.topology.proofs.shape.depth_fault.Goals.{then-p-lt4-via-then-p-lt4, then-p-lt4-via-else-p-lt4+then-position_of-lt4}

pub returns-then-p-lt4 : goal.returns-then-p-lt4
unfolding depth_fault position_of
returns-then-p-lt4 c =
    let a = c.args in
    let nodes = a.tables.now.nodes.now in
    let pool = a.tables.now.pool.now in
    elim c.then-p-lt4.branch [
      | then-p-lt4-via-then-p-lt4 w ↦ rw (lt-ltb (cluster_path nodes pool a.p).depth 4 (omega (arith, w.if-p-lt4.true, path_short nodes pool a.p)))
      | then-p-lt4-via-else-p-lt4+then-position_of-lt4 w ↦
          rw (← ap (λ (r : Position). r.clusters.depth) w.position_of.ensures, lt-ltb _ _ w.if-position_of-lt4.true)
    ]

pub returns : goal.returns
unfolding depth_fault position_of
returns c = rw (← ap (λ (r : Position). r.clusters.depth) c.position_of.ensures, le-ltb _ _ c.if-position_of-lt4.false)
