-- SPDX-License-Identifier: BSD-2-Clause OR GPL-2.0-or-later
-- Properties of a record, and cells (01, "The tables").
use Rattle.std.specs.Prelude.{◌≡◌, cond, List, [], ◌∷◌, ℕ, ◌+◌, ◌*◌, ◌<◌, ◌/◌, ◌%◌, leb, length, get_or}
use Rattle.tables.specs.declared.Found.{Found}
use Rattle.tables.specs.facts.Board.{Board, Inside, prop_count, prop_node, key_offset, key_length, value_offset, value_length, prop_name, prop_value}

-- property record k is record i's and has the name `key`
pub record Property (b : Board) (i : ℕ) (key : List ℕ) (k : ℕ) : Type 0 where
  pub inside : k < prop_count b.props
  pub node : prop_node b.props k ≡ i
  pub range : Inside b.pool (key_offset b.props k) (key_length b.props k)
  pub name : prop_name b k ≡ key

-- property record k as it is found: its number, and where its value stands in the pool
abbrev pub found_at : List ℕ → ℕ → Found
found_at props k = record { number = k; offset = value_offset props k; len = value_length props k }

-- record i has a property `key` with that value
pub record HasValue (b : Board) (i : ℕ) (key value : List ℕ) : Type 0 where
  pub record_number : ℕ
  pub property : Property b i key record_number
  pub range : Inside b.pool (value_offset b.props record_number) (value_length b.props record_number)
  pub bytes : prop_value b record_number ≡ value

-- a cell: four bytes, big-endian
abbrev pub cell_bytes : ℕ → List ℕ
cell_bytes w = w / 16777216 % 256 ∷ w / 65536 % 256 ∷ w / 256 % 256 ∷ w % 256 ∷ []

-- the number of the cell that starts at a byte, 0 where the cell leaves the bytes
unfoldable pub cell_at : List ℕ → ℕ → ℕ
cell_at bytes at =
    cond (leb (at + 4) (length bytes))
    (get_or bytes at 0 * 16777216 + get_or bytes (at + 1) 0 * 65536 + get_or bytes (at + 2) 0 * 256 + get_or bytes (at + 3) 0)
    0
