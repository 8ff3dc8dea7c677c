-- SPDX-License-Identifier: BSD-2-Clause OR GPL-2.0-or-later
-- The answer of the call on a flattened devicetree, and its tables.
use Rattle.std.specs.Prelude.{List, [], ◌∷◌, ℕ, length}
use Rattle.flat.specs.facts.Told.{BlobAnswer}
use Rattle.flat.specs.answers.Answer.{nodes_after, props_after}
use Rattle.sunderwath.specs.answers.Answer.{unless_short}

abbrev pub flat_size : ℕ
flat_size = 4

-- number, place, node records, property records
abbrev pub flat_words : BlobAnswer → List ℕ
flat_words a = a.number ∷ a.place ∷ a.nodes ∷ a.props ∷ []

-- the tables after the call: unchanged where the answer is too short
abbrev pub nodes_behind : List ℕ → List ℕ → List ℕ → List ℕ → List ℕ
nodes_behind answer blob nodes props = unless_short flat_size answer nodes (nodes_after blob nodes (length props))

abbrev pub props_behind : List ℕ → List ℕ → List ℕ → List ℕ → List ℕ
props_behind answer blob nodes props = unless_short flat_size answer props (props_after blob (length nodes) props)
