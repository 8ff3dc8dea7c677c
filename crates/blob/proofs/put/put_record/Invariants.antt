-- SPDX-License-Identifier: BSD-2-Clause OR GPL-2.0-or-later
use Rattle.blob.proofs.PutLaws.{Put}
use Rattle.blob.proofs.put.put_record.Given as goal

abbrev pub invariant-loop-k : goal.invariant-loop-k
invariant-loop-k g l = Put l.initial.table l.fn.words l.start l.k l.table
