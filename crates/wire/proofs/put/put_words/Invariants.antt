-- SPDX-License-Identifier: BSD-2-Clause OR GPL-2.0-or-later
-- `put_words` writes word after word, each behind those before it. Assumes nothing.
use mathlib.Core.Path.{◌≡◌}
use mathlib.Core.List.{◌++◌}
use Prim.Native.Nat.{◌*◌, ◌≤◌}
use lib.ListN.{length, take, drop}
use Rattle.wire.specs.facts.Bytes.{in_bytes, word_size}
use Rattle.wire.proofs.put.put_words.Given as goal

abbrev pub invariant-loop-k : goal.invariant-loop-k
invariant-loop-k l = (word_size * length l.words ≤ length l.initial.bytes)
    × (length l.bytes ≡ length l.initial.bytes)
    × (l.bytes ≡ in_bytes word_size (take l.k l.words) ++ drop (word_size * l.k) l.initial.bytes)
