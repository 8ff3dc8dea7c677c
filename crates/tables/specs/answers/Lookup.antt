-- SPDX-License-Identifier: BSD-2-Clause OR GPL-2.0-or-later
-- Finding a property by name.
use Rattle.tables.specs.declared.Found.{Found}
use Rattle.std.specs.Prelude.{Bool, false, cond, List, ℕ, eqb, ltb, Some, None, Option}
use Rattle.laws.specs.facts.Limits.{no_property}
use Rattle.laws.specs.answers.Search.{lowest}
use Rattle.tables.specs.facts.Board.{prop_count, prop_node, key_offset, key_length}
use Rattle.tables.specs.facts.Property.{found_at}
use Rattle.tables.specs.answers.Range.{range_is}

-- whether property record k is record i's and has the name `key`
unfoldable pub is_property : List ℕ → List ℕ → ℕ → List ℕ → ℕ → Bool
is_property props pool i key k = cond (eqb (prop_node props k) i) (range_is pool (key_offset props k) (key_length props k) key) false

-- what was found below n: record k, or nothing where k is n
abbrev pub found_below : List ℕ → ℕ → ℕ → Option Found
found_below props n k = cond (ltb k n) (Some (found_at props k)) None

-- the lowest property record of record i with the name `key`
unfoldable pub lookup : List ℕ → List ℕ → ℕ → List ℕ → Option Found
lookup props pool i key = found_below props (prop_count props) (lowest (is_property props pool i key) (prop_count props))

-- the number of the record that was found: the second place of what is told of the property
abbrev pub record_of : Option Found → ℕ
record_of (Some found) = found.number
record_of None = no_property
