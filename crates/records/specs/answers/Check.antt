-- SPDX-License-Identifier: BSD-2-Clause OR GPL-2.0-or-later
-- What the checks of rules 5 to 8 answer, record by record and property by property.
use Rattle.std.specs.Prelude.{Bool, false, cond, true, List, ℕ, ◌+◌, zero, suc, ltb, leb, eqb, length}
use Rattle.laws.specs.facts.Limits.{max_node_name, max_property_name, no_parent}
use Rattle.laws.specs.answers.Same.{same_list}
use Rattle.laws.specs.answers.Search.{any_below}
use Rattle.tables.specs.facts.Board.{range, parent_word, name_offset, name_length, prop_node, key_offset, key_length, value_offset, value_length}
use Rattle.tables.specs.answers.Tree.{is_below}

-- whether a name of 1 to `most` bytes lies inside the pool
unfoldable pub sound_name : ℕ → ℕ → ℕ → ℕ → Bool
sound_name bytes most offset len = cond (eqb len 0) false (cond (ltb most len) false (leb (offset + len) bytes))

-- whether the parent word of record i keeps the depth-first rule
unfoldable pub sound_parent : List ℕ → ℕ → Bool
sound_parent nodes zero = eqb (parent_word nodes 0) no_parent
sound_parent nodes (suc i) = cond (eqb (parent_word nodes (suc i)) i) true (is_below nodes i (parent_word nodes (suc i)))

-- the smaller of 5 and 6 that record i breaks, or 0
unfoldable pub node_fault : List ℕ → ℕ → ℕ → ℕ
node_fault nodes bytes i =
    cond (sound_name bytes max_node_name (name_offset nodes i) (name_length nodes i)) (cond (sound_parent nodes i) 0 6) 5

-- whether a property's five words keep rule 7 on a board of `count` node records and a pool of so many bytes
unfoldable pub sound_words : ℕ → ℕ → ℕ → ℕ → ℕ → ℕ → ℕ → Bool
sound_words count bytes node name len value size =
    cond (ltb node count) (cond (sound_name bytes max_property_name name len) (leb (value + size) bytes) false) false

-- whether property k keeps rule 7
unfoldable pub sound_property : ℕ → List ℕ → ℕ → ℕ → Bool
sound_property count props bytes k =
    sound_words count bytes (prop_node props k) (key_offset props k) (key_length props k) (value_offset props k) (value_length props k)

-- whether property j has the node and the name of property k
unfoldable pub same_property : List ℕ → List ℕ → ℕ → ℕ → Bool
same_property props pool k j =
    cond (eqb (prop_node props j) (prop_node props k))
    (same_list (range pool (key_offset props j) (key_length props j)) (range pool (key_offset props k) (key_length props k)))
    false

-- the smaller of 7 and 8 that property k breaks, or 0
unfoldable pub property_fault : ℕ → List ℕ → List ℕ → ℕ → ℕ
property_fault count props pool k =
    cond (sound_property count props (length pool) k) (cond (any_below (same_property props pool k) k) 8 0) 7
