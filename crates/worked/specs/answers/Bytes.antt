-- SPDX-License-Identifier: BSD-2-Clause OR GPL-2.0-or-later
-- Words and MPIDRs in bytes as one table, and the claim that the definitions give each of its entries.
use Rattle.std.specs.Prelude.{List, [], ◌∷◌, map, ◌≡◌, refl, ℕ}
use Rattle.wire.specs.facts.Bytes.{number_of, bytes_of, in_bytes, held, word_size, words_in, numbers_in}

-- words with their bytes; bytes with the words, and with the MPIDRs, that they hold
pub data ByteCase : Type 0 where
  written : (list bytes : List ℕ) → ByteCase
  held_words : (bytes list : List ℕ) → ByteCase
  held_mpidrs : (bytes list : List ℕ) → ByteCase

unfoldable pub byte_cases : List ByteCase
byte_cases =
    ByteCase.written (0x12345678 ∷ 0xFFFFFFFF ∷ []) (0x78 ∷ 0x56 ∷ 0x34 ∷ 0x12 ∷ 0xFF ∷ 0xFF ∷ 0xFF ∷ 0xFF ∷ [])
    ∷ ByteCase.held_words (27 ∷ 0 ∷ 0 ∷ 0 ∷ 1 ∷ 2 ∷ 0 ∷ 128 ∷ 9 ∷ 9 ∷ 9 ∷ []) (27 ∷ 0x80000201 ∷ [])
    ∷ ByteCase.held_mpidrs (3 ∷ 1 ∷ 0 ∷ 0 ∷ 2 ∷ 0 ∷ 0 ∷ 0 ∷ 1 ∷ 0 ∷ 0 ∷ 0 ∷ 0 ∷ 0 ∷ 0 ∷ 0 ∷ []) (0x200000103 ∷ 1 ∷ [])
    ∷ ByteCase.held_mpidrs (1 ∷ 2 ∷ 3 ∷ 4 ∷ 5 ∷ 6 ∷ 7 ∷ []) []
    ∷ []

-- the same words or bytes, with what the definitions give
abbrev pub defined_bytes : ByteCase → ByteCase
defined_bytes (ByteCase.written list bytes) = ByteCase.written list (in_bytes word_size list)
defined_bytes (ByteCase.held_words bytes list) = ByteCase.held_words bytes (words_in bytes)
defined_bytes (ByteCase.held_mpidrs bytes list) = ByteCase.held_mpidrs bytes (numbers_in bytes)

pub bytes_hold : map defined_bytes byte_cases ≡ byte_cases
unfolding byte_cases number_of bytes_of in_bytes held
bytes_hold = refl
