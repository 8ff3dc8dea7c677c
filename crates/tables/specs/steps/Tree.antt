-- SPDX-License-Identifier: BSD-2-Clause OR GPL-2.0-or-later
-- Whether a record is another or below it.
use Rattle.std.specs.Prelude.{Bool, true, cond, List, ℕ, eqb}
use Rattle.tables.specs.answers.Tree.{is_below}

-- whether record p is a or below it
abbrev pub is_at_or_below : List ℕ → ℕ → ℕ → Bool
is_at_or_below nodes p a = cond (eqb p a) true (is_below nodes p a)
