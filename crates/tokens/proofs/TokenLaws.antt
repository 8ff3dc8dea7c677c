-- SPDX-License-Identifier: BSD-2-Clause OR GPL-2.0-or-later
-- What reading a token finds stands there, and nothing else does. Assumes nothing.
use mathlib.Core.Path.{◌≡◌, refl, sym, ◌∙◌, ap, subst}
use mathlib.Core.Bool.{Bool, true, false, cond}
use mathlib.Core.List.{List}
use Prim.Native.Nat.{ℕ, suc, ◌+◌, ◌-◌, ◌≤◌}
use native.Mathlib.Omega.{arith}
use lib.Dec.{ltb, leb, eqb}
use lib.ListN.{length}
use borrow.Author.Tests.{ltb-true, ltb-false, leb-true, eqb-true, lt-ltb, le-ltb, le-leb}
use Rattle.laws.proofs.TestLaws.{cond_both}
use Rattle.tables.specs.facts.Property.{cell_at}
use Rattle.tokens.specs.declared.TokenRead.{TokenRead}
use Rattle.tokens.specs.declared.TokenRead.TheVariants.{Begin, Close, Property, Nop, End, Unsound}
use Rattle.tokens.specs.facts.Token.{Blocks, Token, begin, close, property, nop, finish, StringAt, CellIs, aligned}
use Rattle.tokens.specs.facts.Token.{TokenAt, begin_at, close_at, property_at, nop_at, finish_at}
use Rattle.tokens.specs.answers.Read.{zero_from, behind_zero, begin_read, property_read, token_read}
use Rattle.tokens.proofs.ZeroLaws.{zero_not_before}
use Rattle.tokens.proofs.StringLaws.{zero_string, string_zero, named_string, string_named}

-- a cell that is not 0 lies in the block
pub cell_inside : (block : List ℕ) (at v : ℕ) → cell_at block at ≡ suc v → at + 4 ≤ length block
unfolding cell_at
cell_inside block at v e = go (leb (at + 4) (length block)) refl
  where
    go : (t : Bool) → leb (at + 4) (length block) ≡ t → at + 4 ≤ length block
    go true q = leb-true (at + 4) (length block) q
    go false q = let zero_more : 0 ≡ suc v = sym (rw q) ∙ e in absurd (omega arith)

-- what is read of a token: a property's name by its offset, without its length
abbrev pub forget : Blocks → Token → ℕ → TokenRead
forget b (begin name len) next = Begin len next
forget b close next = Close
forget b (property name len value size) next = Property (name - b.strings_begin) size next
forget b nop next = Nop
forget b finish next = End

-- how long the name at an offset of the strings block is
abbrev pub name_length_at : List ℕ → ℕ → ℕ
name_length_at strings name = zero_from strings name - name

-- a string of the strings block has that length
pub name_length : (strings : List ℕ) (name len : ℕ) → StringAt strings name len → name_length_at strings name ≡ len
name_length strings name len h = let z = string_zero strings name len h in omega arith

-- a token takes four bytes at least
pub token_long : {b : Blocks} {at next : ℕ} {t : Token} → TokenAt b at t next → at + 4 ≤ next
token_long (begin_at c h) = omega arith
token_long (close_at c) = omega arith
token_long (property_at c d e le h) = omega arith
token_long (nop_at c) = omega arith
token_long (finish_at c) = omega arith

-- what reading finds at a place, as a fact
abbrev Stands : Blocks → ℕ → TokenRead → Type 0
Stands b at (Begin len next) = TokenAt b at (begin (at + 4) len) next
Stands b at Close = TokenAt b at close (at + 4)
Stands b at (Property name size next) = TokenAt b at (property (b.strings_begin + name) (name_length_at b.strings name) (at + 12) size) next
Stands b at Nop = TokenAt b at nop (at + 4)
Stands b at End = TokenAt b at finish (at + 4)
Stands b at Unsound = 0 ≤ 0

abbrev pub Means : Blocks → ℕ → TokenRead → Type 0
Means b at (Begin len next) = TokenAt b at (begin (at + 4) len) next
Means b at Close = TokenAt b at close (at + 4)
Means b at (Property name size next) = TokenAt b at (property (b.strings_begin + name) (name_length_at b.strings name) (at + 12) size) next
Means b at Nop = TokenAt b at nop (at + 4)
Means b at End = TokenAt b at finish (at + 4)
Means b at Unsound = (t : Token) (next : ℕ) → TokenAt b at t next → ⊥

module _ (b : Blocks) where
  abbrev block : List ℕ
  block = b.structure

  abbrev named : ℕ
  named = behind_zero b.strings

  abbrev read_at : ℕ → TokenRead
  read_at at = token_read block named at

  -- a token that stands at a place is read there
  begin_found : (at len : ℕ) → StringAt block (at + 4) len → begin_read block at ≡ Begin len (aligned (at + 4 + len + 1))
  unfolding begin_read
  begin_found at len h =
      let back : at + 4 + len - (at + 4) ≡ len = omega arith in
      rw (string_zero block (at + 4) len h, lt-ltb (at + 4 + len) (length block) h.inside, back)

  property_found :
      (at size offset len : ℕ) →
      cell_at block (at + 4) ≡ size →
      cell_at block (at + 8) ≡ offset →
      at + 12 + size ≤ length block →
      StringAt b.strings offset len →
      property_read block named at ≡ Property (b.strings_begin + offset - b.strings_begin) size (aligned (at + 12 + size))
  unfolding property_read
  property_found at size offset len e f le h =
      let back : b.strings_begin + offset - b.strings_begin ≡ offset = omega arith in
      rw (e, f, back, le-ltb (length block) (at + 12 + size) le, lt-ltb offset named (string_named b.strings offset len h))

  pub token_found : (at : ℕ) {t : Token} {next : ℕ} → TokenAt b at t next → token_read block named at ≡ forget b t next
  unfolding token_read
  token_found at (begin_at {len} c h) = rw (le-leb (at + 4) (length block) c.inside, c.is) (begin_found at len h)
  token_found at (close_at c) = rw (le-leb (at + 4) (length block) c.inside, c.is)
  token_found at (property_at {size} {offset} {len} c d e le h) =
      rw (le-leb (at + 4) (length block) c.inside, c.is) (property_found at size offset len d.is e.is le h)
  token_found at (nop_at c) = rw (le-leb (at + 4) (length block) c.inside, c.is)
  token_found at (finish_at c) = rw (le-leb (at + 4) (length block) c.inside, c.is)

  -- a token that is read at a place stands there
  begin_stands : (at : ℕ) → CellIs block at 1 → Stands b at (begin_read block at)
  unfolding begin_read
  begin_stands at c =
      let s = zero_from block (at + 4) in
      let low = zero_not_before block (at + 4) in
      let back : at + 4 + (s - (at + 4)) ≡ s = omega arith in
      cond_both (Stands b at) (ltb s (length block)) (Begin (s - (at + 4)) (aligned (s + 1))) Unsound
      (λ e.
      subst (λ (k : ℕ). TokenAt b at (begin (at + 4) (s - (at + 4))) (aligned (k + 1))) back
      (begin_at c (zero_string block (at + 4) (ltb-true s (length block) e))))
      λ e. omega arith

  property_stands : (at : ℕ) → CellIs block at 3 → Stands b at (property_read block named at)
  unfolding property_read
  property_stands at c =
      let size = cell_at block (at + 4) in
      let name = cell_at block (at + 8) in
      let found = Property name size (aligned (at + 12 + size)) in
      cond_both (Stands b at) (ltb (length block) (at + 12 + size)) Unsound (cond (ltb name named) found Unsound)
      (λ e. omega arith)
      λ e.
      let le : at + 12 + size ≤ length block = ltb-false (length block) (at + 12 + size) e in
      cond_both (Stands b at) (ltb name named) found Unsound
      (λ f.
      let first : CellIs block (at + 4) size = record { inside = omega arith; is = refl } in
      let second : CellIs block (at + 8) name = record { inside = omega arith; is = refl } in
      property_at c first second le (named_string b.strings name (ltb-true name named f)))
      λ f. omega arith

  token_stands : (at : ℕ) → Stands b at (token_read block named at)
  unfolding token_read
  token_stands at =
      let P = Stands b at in
      let cell = cell_at block at in
      let high = cond (eqb cell 4) Nop (cond (eqb cell 9) End Unsound) in
      let low = cond (eqb cell 1) (begin_read block at) (cond (eqb cell 2) Close Unsound) in
      let other = cond (ltb cell 3) low high in
      cond_both P (leb (at + 4) (length block)) (cond (eqb cell 3) (property_read block named at) other) Unsound
      (λ e.
      let is : (v : ℕ) → eqb cell v ≡ true → CellIs block at v =
      λ v q. record { inside = leb-true (at + 4) (length block) e; is = eqb-true cell v q } in
      cond_both P (eqb cell 3) (property_read block named at) other (λ f. property_stands at (is 3 f)) λ _.
      cond_both P (ltb cell 3) low high
      (λ _.
      cond_both P (eqb cell 1) (begin_read block at) (cond (eqb cell 2) Close Unsound) (λ f. begin_stands at (is 1 f)) λ _.
      cond_both P (eqb cell 2) Close Unsound (λ f. close_at (is 2 f)) λ _. omega arith)
      λ _.
      cond_both P (eqb cell 4) Nop (cond (eqb cell 9) End Unsound) (λ f. nop_at (is 4 f)) λ _.
      cond_both P (eqb cell 9) End Unsound (λ f. finish_at (is 9 f)) λ _. omega arith)
      λ e. omega arith

  is_sound : TokenRead → ℕ
  is_sound (Begin l n) = 1
  is_sound Close = 1
  is_sound (Property n s x) = 1
  is_sound Nop = 1
  is_sound End = 1
  is_sound Unsound = 0

  sound_forget : (t : Token) (next : ℕ) → is_sound (forget b t next) ≡ 1
  unfolding is_sound
  sound_forget (begin name len) next = refl
  sound_forget close next = refl
  sound_forget (property name len value s) next = refl
  sound_forget nop next = refl
  sound_forget finish next = refl

  pub token_means : (at : ℕ) → Means b at (token_read block named at)
  unfolding is_sound
  token_means at = go (token_read block named at) refl (token_stands at)
    where
      go : (r : TokenRead) → token_read block named at ≡ r → Stands b at r → Means b at r
      go (Begin len next) e h = h
      go Close e h = h
      go (Property name s next) e h = h
      go Nop e h = h
      go End e h = h
      go Unsound e h = λ t next k.
          let zero_one : ◌≡◌ {A = ℕ} 0 1 = ap is_sound (sym e ∙ token_found at k) ∙ sound_forget t next in
          omega arith
