-- SPDX-License-Identifier: BSD-2-Clause OR GPL-2.0-or-later
use Rattle.blob.specs.steps.Ends.{EndsFrom}
use Rattle.blob.proofs.ends.note_ends.Given as goal

abbrev pub invariant-loop-k : goal.invariant-loop-k
invariant-loop-k l = EndsFrom l.bytes l.ends l.k
