-- SPDX-License-Identifier: BSD-2-Clause OR GPL-2.0-or-later
-- The last byte of a record's name, beside the last digit of a number.
use Rattle.std.specs.Prelude.{Bool, true, false, cond, List, ℕ, ◌+◌, ◌-◌, ◌%◌, eqb, leb, length, get_or}
use Rattle.tables.specs.facts.Board.{name_offset, name_length}

-- whether the name of record i lies inside the pool and ends in another byte than the last digit of n
unfoldable pub ends_otherwise : List ℕ → List ℕ → ℕ → ℕ → Bool
ends_otherwise nodes pool i n =
    let offset = name_offset nodes i in
    let len = name_length nodes i in
    cond (eqb len 0) false
    (cond (leb (offset + len) (length pool)) (cond (eqb (get_or pool (offset + len - 1) 0) (48 + n % 10)) false true) false)
