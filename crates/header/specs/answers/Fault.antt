-- SPDX-License-Identifier: BSD-2-Clause OR GPL-2.0-or-later
-- What is told of a header: 31, 32, or 0; and where its blocks stand.
use Rattle.std.specs.Prelude.{cond, List, ℕ, ◌+◌, ◌%◌, ltb, eqb, length}
use Rattle.laws.specs.facts.Limits.{max_blob}
use Rattle.header.specs.declared.BlockPlaces.{BlockPlaces}
use Rattle.header.specs.facts.Header.{header_bytes, magic_number, format_version, magic, total_size, structure_at, strings_at, version}
use Rattle.header.specs.facts.Header.{last_compatible, strings_size, structure_size}

-- total size and versions, of a blob of so many bytes
abbrev pub versions_fault : ℕ → ℕ → ℕ → ℕ → ℕ
versions_fault bytes total version compatible =
    cond (ltb total header_bytes) 31
    (cond (ltb bytes total) 31 (cond (ltb version format_version) 31 (cond (ltb format_version compatible) 31 0)))

-- blocks that leave the total size, and a structure block that is not aligned
abbrev pub places_fault : ℕ → BlockPlaces → ℕ
places_fault total p =
    cond (ltb total (p.start + p.size)) 32
    (cond (ltb total (p.strings + p.names)) 32 (cond (eqb (p.start % 4) 0) (cond (eqb (p.size % 4) 0) 0 32) 32))

module _ (blob : List ℕ) where
  unfoldable pub version_fault : ℕ
  version_fault = versions_fault (length blob) (total_size blob) (version blob) (last_compatible blob)

  unfoldable pub header_fault : ℕ
  header_fault =
      cond (ltb (length blob) header_bytes) 31
      (cond (ltb max_blob (length blob)) 31 (cond (eqb (magic blob) magic_number) version_fault 31))

  abbrev pub block_places : BlockPlaces
  block_places = record { start = structure_at blob; size = structure_size blob; strings = strings_at blob; names = strings_size blob }

  unfoldable pub blocks_fault : ℕ
  blocks_fault = places_fault (total_size blob) block_places
