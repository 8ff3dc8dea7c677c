-- SPDX-License-Identifier: BSD-2-Clause OR GPL-2.0-or-later
-- Bytes with words at their start.
use Rattle.std.specs.Prelude.{cond, List, ◌++◌, ℕ, ◌*◌, ltb, length, drop}
use Rattle.wire.specs.facts.Bytes.{word_size, in_bytes}

-- as they are where they are too short for all of them
unfoldable pub with_words : List ℕ → List ℕ → List ℕ
with_words words bytes =
    cond (ltb (length bytes) (word_size * length words)) bytes (in_bytes word_size words ++ drop (word_size * length words) bytes)
