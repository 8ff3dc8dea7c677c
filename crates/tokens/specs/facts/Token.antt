-- SPDX-License-Identifier: BSD-2-Clause OR GPL-2.0-or-later
-- The tokens of a structure block (Devicetree Specification, 5.4), as facts about a blob's bytes.
use Rattle.std.specs.Prelude.{◌≡◌, List, [], ◌∷◌, ℕ, ◌+◌, ◌*◌, ◌/◌, ◌<◌, ◌≤◌, length, get_or}
use Rattle.tables.specs.facts.Property.{cell_at}

-- The two blocks of a blob. Offsets count from the blob's start: `structure` has the bytes up to the end of the structure block, which begins
-- at `start`; `strings` has the bytes of the strings block, which begins at `strings_begin`.
pub record Blocks : Type 0 where
  pub structure : List ℕ
  pub start : ℕ
  pub strings : List ℕ
  pub strings_begin : ℕ

-- a token with its data: where a name stands and how long it is, where a value stands and how long it is
pub data Token : Type 0 where
  begin : (name len : ℕ) → Token
  close : Token
  property : (name len value size : ℕ) → Token
  nop : Token
  finish : Token

-- a string of a block: `len` bytes other than zero from `at` on, and behind them a zero byte
pub record StringAt (block : List ℕ) (at len : ℕ) : Type 0 where
  pub inside : at + len < length block
  pub zero_byte : get_or block (at + len) 0 ≡ 0
  pub no_earlier : (k : ℕ) → k < len → get_or block (at + k) 0 ≡ 0 → ⊥

-- a cell of a block
pub record CellIs (block : List ℕ) (at value : ℕ) : Type 0 where
  pub inside : at + 4 ≤ length block
  pub is : cell_at block at ≡ value

-- a number or, where it is no multiple of four, the next one that is
abbrev pub aligned : ℕ → ℕ
aligned n = (n + 3) / 4 * 4

-- a token stands at `at`, and the next one at the last number
pub data TokenAt (b : Blocks) (at : ℕ) : Token → ℕ → Type 0 where
  begin_at :
      {len : ℕ} → CellIs b.structure at 1 → StringAt b.structure (at + 4) len → TokenAt b at (begin (at + 4) len) (aligned (at + 4 + len + 1))
  close_at : CellIs b.structure at 2 → TokenAt b at close (at + 4)
  property_at :
      {size offset len : ℕ} →
      CellIs b.structure at 3 →
      CellIs b.structure (at + 4) size →
      CellIs b.structure (at + 8) offset →
      at + 12 + size ≤ length b.structure →
      StringAt b.strings offset len →
      TokenAt b at (property (b.strings_begin + offset) len (at + 12) size) (aligned (at + 12 + size))
  nop_at : CellIs b.structure at 4 → TokenAt b at nop (at + 4)
  finish_at : CellIs b.structure at 9 → TokenAt b at finish (at + 4)

-- tokens that stand one behind the other, from a place up to a place
pub data Run (b : Blocks) : ℕ → List Token → ℕ → Type 0 where
  stop : {at : ℕ} → Run b at [] at
  more : {at next to : ℕ} {t : Token} {ts : List Token} → TokenAt b at t next → Run b next ts to → Run b at (t ∷ ts) to
