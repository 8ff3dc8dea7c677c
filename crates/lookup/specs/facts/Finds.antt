-- SPDX-License-Identifier: BSD-2-Clause OR GPL-2.0-or-later
-- What a lookup of a property answers (02, W4).
use Rattle.tables.specs.declared.Found.{Found}
use Rattle.std.specs.Prelude.{◌≡◌, ◌↔◌, List, ℕ, ◌<◌, ◌≤◌, Some, None, Option}
use Rattle.laws.specs.facts.Lowest.{Lowest}
use Rattle.tables.specs.facts.Board.{Board, board, prop_count, prop_node, prop_name}
use Rattle.tables.specs.facts.Property.{Property, found_at}
use Rattle.wellformed.specs.facts.Rules.{TableRule}

-- a match: property record k is of record i, and the bytes of its name, as far as the pool has them, are `key`
pub record Match (b : Board) (i : ℕ) (key : List ℕ) (k : ℕ) : Type 0 where
  pub inside : k < prop_count b.props
  pub node : prop_node b.props k ≡ i
  pub name : prop_name b k ≡ key

-- property record k keeps rule 7
abbrev pub KeepsSeven : Board → ℕ → Type 0
KeepsSeven b k = TableRule b 7 k → ⊥

-- the lowest match whose name lies inside the pool; missing where there is none
pub data LowestInside (b : Board) (i : ℕ) (key : List ℕ) : Option Found → Type 0 where
  found : {k : ℕ} → Lowest (Property b i key) k → LowestInside b i key (Some (found_at b.props k))
  missing : ((k : ℕ) → Property b i key k → ⊥) → LowestInside b i key None

pub record Finds (b : Board) (i : ℕ) (key : List ℕ) (answer : Option Found) : Type 0 where
  -- where the records up to the lowest match keep rule 7, it is that match, whatever later records break
  pub match : (k : ℕ) → Lowest (Match b i key) k → ((j : ℕ) → j ≤ k → KeepsSeven b j) → answer ≡ Some (found_at b.props k)
  -- where all records keep rule 7, it is missing exactly when there is no match
  pub missing : ((j : ℕ) → KeepsSeven b j) → (answer ≡ None) ↔ ((k : ℕ) → Match b i key k → ⊥)
  -- on every other table the papers leave the answer free; this holds there, as on all tables
  pub left_free : LowestInside b i key answer

-- the same of a property table and a pool, whatever board they are of
abbrev pub FindsIn : List ℕ → List ℕ → ℕ → List ℕ → Option Found → Type 0
FindsIn props pool i key answer = (width : ℕ) (nodes : List ℕ) → Finds (board width nodes props pool) i key answer
