-- SPDX-License-Identifier: BSD-2-Clause OR GPL-2.0-or-later
-- The blocks of a blob as slices, and tables that have room where the blob is accepted.
use Rattle.std.specs.Prelude.{◌≡◌, List, ℕ, ◌≤◌, length}
use Rattle.tokens.specs.facts.Token.{Blocks}
use Rattle.flat.specs.answers.Answer.{walk_in, walk_answer, filled_in}

abbrev pub blocks : List ℕ → ℕ → List ℕ → ℕ → Blocks
blocks structure start strings strings_begin = record { structure = structure; start = start; strings = strings; strings_begin = strings_begin }

-- tables of so many words have room for the records, where they are filled
abbrev pub Roomy : Blocks → ℕ → ℕ → Type 0
Roomy b node_room prop_room =
    (walk_answer node_room prop_room (walk_in b)).number ≡ 0 → (length (filled_in b).nodes ≤ node_room) × (length (filled_in b).props ≤ prop_room)
