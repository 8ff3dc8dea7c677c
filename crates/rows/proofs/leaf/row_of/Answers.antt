-- SPDX-License-Identifier: BSD-2-Clause OR GPL-2.0-or-later
-- `row_of` fills a row from the leaf's name and its position. Assumes nothing.
use mathlib.Core.Path.{ap}
use Rattle.cpumap.specs.answers.Path.{position_of}
use Rattle.rows.specs.declared.Placed.{Placed}
use Rattle.rows.specs.answers.Leaf.{row_of}
use Rattle.rows.proofs.leaf.row_of.Goals as goal

pub leaf_position-position-requires : goal.leaf_position-position-requires
leaf_position-position-requires c =
    record { name = c.topology_name-name.ensures; above = ap (λ (p : Placed). p.position) c.requires }

pub returns : goal.returns
unfolding row_of position_of
returns c = rw (c.thread_of.ensures, c.core_of.ensures, c.leaf_position-position.ensures, c.topology_name-name.ensures, c.requires)
