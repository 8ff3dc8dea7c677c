-- SPDX-License-Identifier: BSD-2-Clause OR GPL-2.0-or-later
-- Members of a list: laid at the front of a buffer, and what is told of one of them.
use Rattle.std.specs.Prelude.{List, ◌++◌, cond, ℕ, length, take, drop, get_or, eqb}
use Rattle.laws.specs.facts.Told.{Fault}
use Rattle.laws.specs.answers.Fault.{told}

-- a buffer with a list at its front, and behind it what the buffer held; what does not fit is cut off
unfoldable pub laid_over : List ℕ → List ℕ → List ℕ
laid_over l before = take (length before) (l ++ drop (length l) before)

-- what is told of an index, told of the member of a list at that index
abbrev pub fault_of_member : List ℕ → Fault → Fault
fault_of_member l f = told f.number (get_or l f.place 0)

-- how many members of a list stand before the index that a fault tells; all where it tells none
abbrev pub members_passed : List ℕ → Fault → ℕ
members_passed l f = cond (eqb f.number 0) (length l) f.place
