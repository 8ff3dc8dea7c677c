-- SPDX-License-Identifier: BSD-2-Clause OR GPL-2.0-or-later
-- What reading a token finds.
use Rattle.std.specs.Prelude.{cond, List, ℕ, zero, suc, ◌+◌, ◌-◌, ltb, leb, eqb, length, get_or}
use Rattle.tables.specs.facts.Property.{cell_at}
use Rattle.tokens.specs.declared.TokenRead.{TokenRead}
use Rattle.tokens.specs.declared.TokenRead.TheVariants.{Begin, Close, Property, Nop, End, Unsound}
use Rattle.tokens.specs.facts.Token.{aligned}

-- the first zero byte of n bytes from a place on, or the place behind them
unfoldable pub zero_in : List ℕ → ℕ → ℕ → ℕ
zero_in bytes from zero = from
zero_in bytes from (suc n) = cond (eqb (get_or bytes from 0) 0) from (zero_in bytes (from + 1) n)

-- the first zero byte from a place on, or the end of the bytes (a place behind the end is handed back)
unfoldable pub zero_from : List ℕ → ℕ → ℕ
zero_from bytes from = zero_in bytes from (length bytes - from)

-- the place behind the last zero byte of the first n bytes, 0 where none is zero
unfoldable pub behind_zero_in : List ℕ → ℕ → ℕ
behind_zero_in bytes zero = 0
behind_zero_in bytes (suc n) = cond (eqb (get_or bytes n 0) 0) (suc n) (behind_zero_in bytes n)

-- The place behind the last zero byte. A string that begins before it ends in the bytes, and no other does.
unfoldable pub behind_zero : List ℕ → ℕ
behind_zero bytes = behind_zero_in bytes (length bytes)

unfoldable pub begin_read : List ℕ → ℕ → TokenRead
begin_read block at =
    let stop = zero_from block (at + 4) in
    cond (ltb stop (length block)) (Begin (stop - (at + 4)) (aligned (stop + 1))) Unsound

-- the name is told by its offset in the strings block, where it begins before `named`
unfoldable pub property_read : List ℕ → ℕ → ℕ → TokenRead
property_read block named at =
    let size = cell_at block (at + 4) in
    let name = cell_at block (at + 8) in
    cond (ltb (length block) (at + 12 + size)) Unsound (cond (ltb name named) (Property name size (aligned (at + 12 + size))) Unsound)

-- the token that begins with a cell
abbrev pub token_by : List ℕ → ℕ → ℕ → ℕ → TokenRead
token_by block named at cell =
    cond (eqb cell 3) (property_read block named at)
    (cond (ltb cell 3)
    (cond (eqb cell 1) (begin_read block at) (cond (eqb cell 2) Close Unsound))
    (cond (eqb cell 4) Nop (cond (eqb cell 9) End Unsound)))

-- The token at a place of a structure block that ends where the bytes do. Names of properties begin before `named`.
unfoldable pub token_read : List ℕ → ℕ → ℕ → TokenRead
token_read block named at = cond (leb (at + 4) (length block)) (token_by block named at (cell_at block at)) Unsound

-- What reading a token finds where one is known to stand: whether its data lie in the block is not tested again.
abbrev pub known_begin : List ℕ → ℕ → TokenRead
known_begin block at =
    let stop = zero_from block (at + 4) in
    Begin (stop - (at + 4)) (aligned (stop + 1))

-- a property's name begins in a strings block of so many bytes
abbrev pub known_property : List ℕ → ℕ → ℕ → TokenRead
known_property block strings_size at =
    let size = cell_at block (at + 4) in
    let name = cell_at block (at + 8) in
    cond (ltb name strings_size) (Property name size (aligned (at + 12 + size))) Unsound

abbrev pub known_by : List ℕ → ℕ → ℕ → ℕ → TokenRead
known_by block strings_size at cell =
    cond (eqb cell 3) (known_property block strings_size at)
    (cond (ltb 3 cell)
    (cond (eqb cell 4) Nop Unsound)
    (cond (eqb cell 1) (known_begin block at) (cond (eqb cell 2) Close Unsound)))

unfoldable pub known_read : List ℕ → ℕ → ℕ → TokenRead
known_read block strings_size at = known_by block strings_size at (cell_at block at)
