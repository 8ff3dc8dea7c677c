-- SPDX-License-Identifier: BSD-2-Clause OR GPL-2.0-or-later
-- The order in which broken rules are told (01, "Numbers told, in order of checking"; 36 and 37 behind 9: 02, W3; 38 and 39 behind 27: 02,
-- W5): by stage, then place, then number.
use Rattle.std.specs.Prelude.{List, [], ◌∷◌, ℕ}
use Rattle.laws.specs.facts.First.{stage_in}

-- the stages in order, each with its numbers
abbrev pub stages : List (List ℕ)
stages =
    (1 ∷ [])
    ∷ (2 ∷ [])
    ∷ (3 ∷ [])
    ∷ (4 ∷ [])
    ∷ (5 ∷ 6 ∷ [])
    ∷ (7 ∷ 8 ∷ [])
    ∷ (9 ∷ [])
    ∷ (36 ∷ [])
    ∷ (37 ∷ [])
    ∷ (10 ∷ [])
    ∷ (11 ∷ 12 ∷ 13 ∷ [])
    ∷ (15 ∷ [])
    ∷ (16 ∷ [])
    ∷ (17 ∷ [])
    ∷ (18 ∷ 19 ∷ 20 ∷ 21 ∷ 22 ∷ 23 ∷ 24 ∷ 25 ∷ [])
    ∷ (26 ∷ [])
    ∷ (27 ∷ [])
    ∷ (38 ∷ [])
    ∷ (39 ∷ [])
    ∷ []

abbrev pub stage : ℕ → ℕ
stage = stage_in stages
