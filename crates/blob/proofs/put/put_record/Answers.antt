-- SPDX-License-Identifier: BSD-2-Clause OR GPL-2.0-or-later
-- `put_record` writes one word after the other. Assumes nothing.
use Prim.Native.Nat.{◌*◌}
use native.Mathlib.Omega.{arith}
use Rattle.blob.proofs.PutLaws.{put_more}
use Rattle.blob.proofs.put.put_record.Goals as goal

pub loop-k-preserved : goal.loop-k-preserved
loop-k-preserved g c =
    let a = c.args in
    put_more a.table.now a.words (g.row.WORDS * a.n) c.loop-k.k (omega arith) c.loop-k.invariant (omega arith)
