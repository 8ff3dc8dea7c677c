-- SPDX-License-Identifier: BSD-2-Clause OR GPL-2.0-or-later
-- The number that follows a word.
use Rattle.std.specs.Prelude.{cond, List, ℕ, length, drop, Option, None}
use Rattle.names.specs.answers.Name.{starts_with, number_of}

-- the number that follows a word, where the name begins with it
unfoldable pub number_after : List ℕ → List ℕ → Option ℕ
number_after word name = cond (starts_with word name) (number_of (drop (length word) name)) None
