-- SPDX-License-Identifier: BSD-2-Clause OR GPL-2.0-or-later
-- `scan_records` meets its contract: the lent arrays hold what is gathered before record i, and a leaf that breaks no rule has room in them.
-- Assumes nothing.
use Rattle.leaves.specs.answers.Check.{indexed_cpu}
use Rattle.leaves.specs.answers.Scan.{tree}
use Rattle.leaves.proofs.RecordPassLaws.{Gathered}
use Rattle.leaves.proofs.pass.scan_records.Given as goal

abbrev pub invariant-loop-i : goal.invariant-loop-i
invariant-loop-i l =
    let t = tree l.tables.nodes.now (indexed_cpu l.tables.props.now l.index) l.tables.pool.now l.map l.phandles in
    Gathered t l.initial.leaves l.initial.named l.marks l.leaves l.named l.count l.i
