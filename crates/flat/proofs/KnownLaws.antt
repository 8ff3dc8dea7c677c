-- SPDX-License-Identifier: BSD-2-Clause OR GPL-2.0-or-later
-- A token that stands at a place is read there without a test, but for the end token. Assumes nothing.
use mathlib.Core.Path.{◌≡◌}
use Prim.Native.Nat.{ℕ, ◌+◌, ◌-◌}
use native.Mathlib.Omega.{arith}
use lib.ListN.{length}
use borrow.Author.Tests.{lt-ltb}
use Rattle.tokens.specs.declared.TokenRead.{TokenRead}
use Rattle.tokens.specs.declared.TokenRead.TheVariants.{Begin, Close, Property, Nop, End, Unsound}
use Rattle.tokens.specs.facts.Token.{Blocks, Token, TokenAt, begin_at, close_at, property_at, nop_at, finish_at}
use Rattle.tokens.proofs.StringLaws.{string_zero}
use Rattle.tokens.proofs.TokenLaws.{forget}
use Rattle.tokens.specs.answers.Read.{known_read}

-- the end token is not known
abbrev pub known : TokenRead → TokenRead
known (Begin len next) = Begin len next
known Close = Close
known (Property name size next) = Property name size next
known Nop = Nop
known End = Unsound
known Unsound = Unsound

pub known_found :
    (b : Blocks) (at : ℕ) {t : Token} {next : ℕ} →
    TokenAt b at t next →
    known_read b.structure (length b.strings) at ≡ known (forget b t next)
unfolding known_read
known_found b at (begin_at {len} c h) =
    let back : at + 4 + len - (at + 4) ≡ len = omega arith in
    rw (c.is, string_zero b.structure (at + 4) len h, back)
known_found b at (close_at c) = rw c.is
known_found b at (property_at {size} {offset} {len} c d e le h) =
    let back : b.strings_begin + offset - b.strings_begin ≡ offset = omega arith in
    let inside = h.inside in
    rw (c.is, d.is, e.is, back, lt-ltb offset (length b.strings) (omega arith))
known_found b at (nop_at c) = rw c.is
known_found b at (finish_at c) = rw c.is
