-- SPDX-License-Identifier: BSD-2-Clause OR GPL-2.0-or-later
-- `put_record` meets its contract. Assumes nothing.
use mathlib.Core.Path.{sym}
use lib.Seq.{set_out}
use Rattle.cpus.proofs.root.put_record.Goals as goal

pub returns-else-k-records : goal.returns-else-k-records
returns-else-k-records c = sym (set_out _ _ _ c.if-k-records.false)
