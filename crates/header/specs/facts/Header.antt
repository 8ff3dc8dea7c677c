-- SPDX-License-Identifier: BSD-2-Clause OR GPL-2.0-or-later
-- The header of a flattened devicetree (Devicetree Specification, 5.2): ten cells, of which these eight count, and the two blocks that they name.
use Rattle.std.specs.Prelude.{List, ℕ, ◌+◌, take}
use Rattle.tables.specs.facts.Board.{range}
use Rattle.tables.specs.facts.Property.{cell_at}
use Rattle.tokens.specs.facts.Token.{Blocks}

abbrev pub header_bytes : ℕ
header_bytes = 40

abbrev pub magic_number : ℕ
magic_number = 0xd00dfeed

-- the version of the format that is read
abbrev pub format_version : ℕ
format_version = 17

module _ (blob : List ℕ) where
  abbrev pub magic : ℕ
  magic = cell_at blob 0

  abbrev pub total_size : ℕ
  total_size = cell_at blob 4

  abbrev pub structure_at : ℕ
  structure_at = cell_at blob 8

  abbrev pub strings_at : ℕ
  strings_at = cell_at blob 12

  abbrev pub version : ℕ
  version = cell_at blob 20

  abbrev pub last_compatible : ℕ
  last_compatible = cell_at blob 24

  abbrev pub strings_size : ℕ
  strings_size = cell_at blob 32

  abbrev pub structure_size : ℕ
  structure_size = cell_at blob 36

  -- the two blocks
  abbrev pub blocks_of : Blocks
  blocks_of =
      record {
        structure = take (structure_at + structure_size) blob;
        start = structure_at;
        strings = range blob strings_at strings_size;
        strings_begin = strings_at;
      }
