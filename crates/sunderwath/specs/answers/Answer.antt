-- SPDX-License-Identifier: BSD-2-Clause OR GPL-2.0-or-later
-- The words of an exported call's answer, and what is left where there is no room for them.
use Rattle.std.specs.Prelude.{List, [], ◌∷◌, ◌++◌, cond, ℕ, ◌/◌, ◌%◌, ◌^◌, get_or, length, drop, ltb}
use Rattle.affinity.specs.declared.Hash.{Hash}
use Rattle.laws.specs.facts.Told.{Fault}
use Rattle.sunderwath.specs.declared.answer.Told.{Told}

abbrev pub answer_size : ℕ
answer_size = 11

-- number, place, a third word (count or slot), mask low, mask high, four shifts, bits, second place
unfoldable pub answer_words : (number place second third : ℕ) → Hash → List ℕ
answer_words number place second third h =
    number ∷ place ∷ third ∷ h.mask % 2 ^ 32 ∷ h.mask / 2 ^ 32
    ∷ get_or h.shifts 0 0 ∷ get_or h.shifts 1 0 ∷ get_or h.shifts 2 0 ∷ get_or h.shifts 3 0 ∷ h.bits ∷ second ∷ []

-- what a call leaves: what was there where its answer has fewer words than the call writes
abbrev pub unless_short : {A : Type 0} → ℕ → List ℕ → A → A → A
unless_short size answer before after = cond (ltb (length answer) size) before after

-- 49 where the answer is too short, before any other check
abbrev pub or_short_of : ℕ → List ℕ → ℕ → ℕ
or_short_of size answer number = unless_short size answer 49 number

-- the answer after the call: the words at its start, or unchanged where it is too short
abbrev pub answer_after_of : ℕ → List ℕ → List ℕ → List ℕ
answer_after_of size answer words = unless_short size answer answer (words ++ drop size answer)

-- the same for an answer of eleven words
abbrev pub or_short : List ℕ → ℕ → ℕ
or_short = or_short_of answer_size

abbrev pub answer_after : List ℕ → List ℕ → List ℕ
answer_after = answer_after_of answer_size

-- what is told in words
abbrev pub in_words : Told → Fault
in_words t = record { number = t.number; place = t.place; second = t.second }
