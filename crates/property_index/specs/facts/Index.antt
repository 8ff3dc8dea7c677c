-- SPDX-License-Identifier: BSD-2-Clause OR GPL-2.0-or-later
-- An index of properties, and what it finds: what a lookup does (02, W4).
use Rattle.tables.specs.declared.Found.{Found}
use Rattle.std.specs.Prelude.{◌≡◌, List, ℕ, suc, ◌+◌, ◌*◌, ◌<◌, ◌≤◌, get_or, replicate, Option}
use Rattle.laws.specs.facts.Limits.{max_nodes, max_properties}
use Rattle.laws.specs.facts.Lowest.{Lowest}
use Rattle.tables.specs.facts.Board.{Board, board, prop_count}
use Rattle.tables.specs.facts.Property.{Property}
use Rattle.lookup.specs.facts.Finds.{Finds}
use Rattle.property_index.specs.declared.Key.{Key}
use Rattle.property_index.specs.facts.Key.{key_name, key_number}

-- the word for a key of record i: one more than the number of its lowest property of that name, 0 where it has none
pub data Noted (b : Board) (i : ℕ) (key : List ℕ) : ℕ → Type 0 where
  property : {k : ℕ} → Lowest (Property b i key) k → Noted b i key (suc k)
  none : ((k : ℕ) → Property b i key k → ⊥) → Noted b i key 0

-- a table is an index of a board's properties: it has the word for each key of each record that rule 2 allows
abbrev pub IndexOf : Board → List ℕ → Type 0
IndexOf b table = (i : ℕ) → i < max_nodes → (key : Key) → Noted b i (key_name key) (get_or table (4 * i + key_number key) 0)

-- a table of zeros becomes an index of a property table that rule 3 allows, whatever its records break
abbrev pub Indexes : (before props pool after : List ℕ) → Type 0
Indexes before props pool after =
    before ≡ replicate (4 * max_nodes) 0 →
    prop_count props ≤ max_properties →
    (width : ℕ) (nodes : List ℕ) → IndexOf (board width nodes props pool) after

-- what is answered by an index of a property table is what a lookup finds, of every record that rule 2 allows
abbrev pub FindsBy : (props table : List ℕ) → ℕ → Key → Option Found → Type 0
FindsBy props table i key answer =
    (width : ℕ) (nodes pool : List ℕ) →
    IndexOf (board width nodes props pool) table →
    i < max_nodes →
    Finds (board width nodes props pool) i (key_name key) answer
