-- SPDX-License-Identifier: BSD-2-Clause OR GPL-2.0-or-later
-- `is_free` meets its contract: what is known of the records before j settles it at a child that has the number, at child number n
-- from i on, or at the end. Assumes nothing.
use Rattle.topology.proofs.SiblingLaws.{Passed}
use Rattle.topology.proofs.siblings.is_free.Given as goal

abbrev pub invariant-loop-j : goal.invariant-loop-j
invariant-loop-j l = Passed l.tables.nodes.now l.tables.pool.now l.p l.i l.n l.j l.count
