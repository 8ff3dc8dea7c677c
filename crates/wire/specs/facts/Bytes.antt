-- SPDX-License-Identifier: BSD-2-Clause OR GPL-2.0-or-later
-- Numbers in bytes, lowest byte first (02, W6).
use Rattle.std.specs.Prelude.{List, [], ◌∷◌, ◌++◌, ℕ, zero, suc, ◌+◌, ◌*◌, ◌/◌, ◌%◌, length, take, drop}

-- the number that bytes write
unfoldable pub number_of : List ℕ → ℕ
number_of [] = 0
number_of (b ∷ bs) = b + 256 * number_of bs

-- so many bytes of a number
unfoldable pub bytes_of : ℕ → ℕ → List ℕ
bytes_of zero n = []
bytes_of (suc k) n = n % 256 ∷ bytes_of k (n / 256)

-- numbers one behind the other, so many bytes each
unfoldable pub in_bytes : ℕ → List ℕ → List ℕ
in_bytes size [] = []
in_bytes size (n ∷ ns) = bytes_of size n ++ in_bytes size ns

-- the first `count` numbers that bytes hold, `size` bytes each
unfoldable pub held : (size count : ℕ) → List ℕ → List ℕ
held size zero bytes = []
held size (suc k) bytes = number_of (take size bytes) ∷ held size k (drop size bytes)

-- the bytes of a word of 32 bits, and those of a number of 64 bits
abbrev pub word_size : ℕ
word_size = 4

abbrev pub number_size : ℕ
number_size = 8

-- all words that bytes hold, and all numbers; bytes that are left over at the end hold none
abbrev pub words_in : List ℕ → List ℕ
words_in bytes = held word_size (length bytes / word_size) bytes

abbrev pub numbers_in : List ℕ → List ℕ
numbers_in bytes = held number_size (length bytes / number_size) bytes
