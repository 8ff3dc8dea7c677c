-- SPDX-License-Identifier: BSD-2-Clause OR GPL-2.0-or-later
-- The answers of the calls on tables.
use Rattle.tables.specs.declared.Found.{Found}
use Rattle.std.specs.Prelude.{◌≡◌, List, ℕ, min, Option}
use Rattle.laws.specs.facts.Limits.{no_property}
use Rattle.affinity.specs.facts.List.{no_hash}
use Rattle.tables.specs.facts.Board.{Board}
use Rattle.tables.specs.answers.Lookup.{record_of}
use Rattle.lookup.specs.facts.Finds.{FindsIn}
use Rattle.wellformed.specs.answers.Check.{table_fault}
use Rattle.sunderwath.specs.answers.Answer.{answer_words}

-- rules 1 to 8 are told of no property
abbrev pub check_words : Board → List ℕ
check_words b = answer_words (table_fault b).number (table_fault b).place no_property 0 no_hash

-- a record number as a word; 0xFFFFFFFF where there is none, or where it is no smaller
abbrev pub found_word : Option Found → ℕ
found_word found = min (record_of found) no_property

-- a word is that of an answer that finds the property
abbrev pub FindsWord : List ℕ → List ℕ → ℕ → List ℕ → ℕ → Type 0
FindsWord props pool i key word = (answer : Option Found) × FindsIn props pool i key answer × (word ≡ found_word answer)
