-- SPDX-License-Identifier: BSD-2-Clause OR GPL-2.0-or-later
-- What a row holds, as words, and a part of a table with a row at its start.
use Rattle.std.specs.Prelude.{List, [], ◌∷◌, ◌++◌, cond, ℕ, get_or, length, drop, ltb}
use Rattle.layout.specs.declared.Row.{Row}
use Rattle.layout.specs.facts.Row.{row_size}

-- what a row holds, as words in order
unfoldable pub row_words : Row → List ℕ
row_words r =
    r.leaf ∷ r.cpu ∷ r.upper ∷ r.lower ∷ r.socket ∷ get_or r.path 0 0 ∷ get_or r.path 1 0 ∷ get_or r.path 2 0 ∷ get_or r.path 3 0
    ∷ r.core ∷ r.thread ∷ r.slot ∷ []

-- a part of a table with a row at its start; as it is where it is shorter than a row
unfoldable pub with_row : Row → List ℕ → List ℕ
with_row r part = cond (ltb (length part) row_size) part (row_words r ++ drop row_size part)
