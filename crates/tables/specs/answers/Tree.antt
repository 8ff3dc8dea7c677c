-- SPDX-License-Identifier: BSD-2-Clause OR GPL-2.0-or-later
-- Parents and ancestors, as tests; a value of each record made from its parent's.
use Rattle.std.specs.Prelude.{Bool, false, cond, true, List, ℕ, zero, suc, ltb, eqb, Some, None, Option}
use Rattle.tables.specs.facts.Board.{node_count, parent_word}

-- whether i is a child of p
unfoldable pub is_child : List ℕ → ℕ → ℕ → Bool
is_child nodes p i = cond (ltb i (node_count nodes)) (cond (eqb (parent_word nodes i) p) (ltb p i) false) false

-- whether record i has a parent
unfoldable pub has_parent : List ℕ → ℕ → Bool
has_parent nodes i = cond (ltb i (node_count nodes)) (ltb (parent_word nodes i) i) false

unfoldable pub parent_of : List ℕ → ℕ → Option ℕ
parent_of nodes i = cond (has_parent nodes i) (Some (parent_word nodes i)) None

-- A value of each record: `top` where it has no parent, and else made by `step` of the record and its parent's value. At most k parents are taken.
unfoldable pub climb_in : {A : Type 0} → List ℕ → A → (ℕ → A → A) → ℕ → ℕ → A
climb_in nodes top step zero i = top
climb_in nodes top step (suc k) i =
    let value = climb_in nodes top step k (parent_word nodes i) in
    cond (has_parent nodes i) (step i value) top

-- record i has at most i ancestors, since each is earlier than the one before
unfoldable pub climb : {A : Type 0} → List ℕ → A → (ℕ → A → A) → ℕ → A
climb nodes top step i = climb_in nodes top step i i

-- whether a is an ancestor of a record, from whether it is one of the record's parent
abbrev pub below_step : List ℕ → ℕ → ℕ → Bool → Bool
below_step nodes a i value = cond (eqb (parent_word nodes i) a) true value

-- whether record i is below a
unfoldable pub is_below : List ℕ → ℕ → ℕ → Bool
is_below nodes i a = climb nodes false (below_step nodes a) i
