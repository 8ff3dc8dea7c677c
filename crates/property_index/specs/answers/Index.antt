-- SPDX-License-Identifier: BSD-2-Clause OR GPL-2.0-or-later
-- The index of properties: at four times a record's number and a key's number, one more than the number of the property, or 0.
use Rattle.tables.specs.declared.Found.{Found}
use Rattle.std.specs.Prelude.{cond, List, ◌≡◌, ℕ, ◌+◌, ◌*◌, ◌<◌, zero, suc, min, eqb, ltb, get_or, set, Some, None, Option}
use Rattle.laws.specs.facts.Limits.{max_nodes, max_properties}
use Rattle.tables.specs.facts.Binding.{reg_key, cpu_key, phandle_key, device_type_key}
use Rattle.tables.specs.facts.Property.{found_at}
use Rattle.tables.specs.answers.Lookup.{lookup}
use Rattle.tables.specs.answers.Range.{range_is}
use Rattle.tables.specs.facts.Board.{board, prop_count, prop_node, key_offset, key_length}
use Rattle.property_index.specs.declared.Key.{Key}
use Rattle.property_index.specs.facts.Key.{key_name, key_number}
use Rattle.property_index.specs.facts.Index.{IndexOf}

-- the number of the key that a name is, 4 where it is none
unfoldable pub key_of : List ℕ → ℕ → ℕ → ℕ
key_of pool offset len =
    cond (range_is pool offset len reg_key) 0
    (cond (range_is pool offset len cpu_key) 1
    (cond (range_is pool offset len phandle_key) 2 (cond (range_is pool offset len device_type_key) 3 4)))

-- a table with property k noted at a place; as it was where a property is noted there already
unfoldable pub noted : List ℕ → ℕ → ℕ → List ℕ
noted table at k = cond (eqb (get_or table at 0) 0) (set table at (k + 1)) table

-- a table with property k noted, where its name is a key and its record is below 1,024
unfoldable pub noted_key : List ℕ → List ℕ → ℕ → ℕ → ℕ → ℕ → List ℕ
noted_key table pool node offset len k =
    cond (ltb node max_nodes) (cond (ltb (key_of pool offset len) 4) (noted table (4 * node + key_of pool offset len) k) table) table

-- a table with the properties below n noted
unfoldable pub indexed_below : List ℕ → List ℕ → List ℕ → ℕ → List ℕ
indexed_below table props pool zero = table
indexed_below table props pool (suc k) =
    noted_key (indexed_below table props pool k) pool (prop_node props k) (key_offset props k) (key_length props k) k

-- a table with all properties noted, as far as rule 3 allows them
abbrev pub indexed : List ℕ → List ℕ → List ℕ → List ℕ
indexed table props pool = indexed_below table props pool (min (prop_count props) max_properties)

-- a word of the table as the answer of a lookup
abbrev pub lookup_in : List ℕ → ℕ → Option Found
lookup_in props zero = None
lookup_in props (suc k) = Some (found_at props k)

-- the property that is a key of record i, by an index of properties
unfoldable pub indexed_at : (props table : List ℕ) → ℕ → Key → Option Found
indexed_at props table i key = lookup_in props (get_or table (4 * i + key_number key) 0)

-- an index of a property table answers as the lookup does, of every record that rule 2 allows
abbrev pub AsLookup : (props table : List ℕ) → ℕ → Key → Option Found → Type 0
AsLookup props table i key answer =
    (width : ℕ) (nodes pool : List ℕ) → IndexOf (board width nodes props pool) table → i < max_nodes → answer ≡ lookup props pool i (key_name key)
