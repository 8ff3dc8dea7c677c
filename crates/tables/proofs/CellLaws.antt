-- SPDX-License-Identifier: BSD-2-Clause OR GPL-2.0-or-later
-- Cells of the pool: four bytes, and the number that they hold. Assumes nothing.
use mathlib.Core.Path.{◌≡◌, refl, sym, ap, ◌∙◌}
use mathlib.Core.Bool.{Bool, true, false, cond}
use mathlib.Core.List.{List, [], ◌∷◌}
use Prim.Native.Nat.{ℕ, suc, ◌+◌, ◌*◌, ◌/◌, ◌%◌, ◌^◌, ◌≤◌, ◌<◌}
use native.Mathlib.Omega.{arith}
use lib.Dec.{eqb, leb}
use lib.ListN.{length, get_or}
use lib.Seq.{drop-cons}
use Rattle.std.specs.Int.{w32, from_be_bytes}
use borrow.Author.Tests.{le-leb, lt-leb, leb-true, eqb-true, eqb-false, ne_eqb}
use Rattle.laws.specs.answers.Same.{same_list}
use Rattle.laws.proofs.SameLaws.{same_refl, same_equal}
use Rattle.laws.proofs.TestLaws.{false_unless}
use Rattle.tables.specs.facts.Board.{range}
use Rattle.tables.specs.answers.Range.{range_is}
use Rattle.tables.specs.facts.Property.{cell_bytes}
use Rattle.tables.specs.facts.Property.{cell_at}

-- the number of four bytes
abbrev join : ℕ → ℕ → ℕ → ℕ → ℕ
join a b c d = a * 16777216 + b * 65536 + c * 256 + d

join_lt : (a b c d : ℕ) → a < 256 → b < 256 → c < 256 → d < 256 → join a b c d < 2 ^ 32
join_lt a b c d ha hb hc hd = omega arith

-- the bytes of a number and back ..
join_bytes : (w : ℕ) → w < 2 ^ 32 → join (w / 16777216 % 256) (w / 65536 % 256) (w / 256 % 256) (w % 256) ≡ w
join_bytes w h =
    let top : w / 16777216 % 256 ≡ w / 16777216 = omega arith in
    let high : w / 65536 ≡ w / 16777216 * 256 + w / 65536 % 256 = omega arith in
    let low : w / 256 ≡ w / 65536 * 256 + w / 256 % 256 = omega arith in
    rw top (sum (w / 256) (w / 65536) (w / 16777216) (w / 65536 % 256) (w / 256 % 256) (w % 256) high low (omega arith))
  where
    sum : (x y z b c d : ℕ) → y ≡ z * 256 + b → x ≡ y * 256 + c → w ≡ x * 256 + d → join z b c d ≡ w
    sum x y z b c d e f g = omega arith

-- .. and the number of four bytes and back
module _ (a b c d : ℕ) (ha : a < 256) (hb : b < 256) (hc : c < 256) (hd : d < 256) where
  first : join a b c d / 16777216 % 256 ≡ a
  first = omega arith

  second : join a b c d / 65536 % 256 ≡ b
  second = omega arith

  third : join a b c d / 256 % 256 ≡ c
  third = omega arith

  fourth : join a b c d % 256 ≡ d
  fourth = omega arith

  bytes_join : cell_bytes (join a b c d) ≡ a ∷ b ∷ c ∷ d ∷ []
  bytes_join = rw (first, second, third, fourth)

-- different cells below 2 ^ 32 have different bytes
pub cell_bytes_apart : (v w : ℕ) → v < 2 ^ 32 → w < 2 ^ 32 → cell_bytes v ≡ cell_bytes w → v ≡ w
cell_bytes_apart v w l m e =
    let a : v / 16777216 % 256 ≡ w / 16777216 % 256 = cc in
    let b : v / 65536 % 256 ≡ w / 65536 % 256 = cc in
    let c : v / 256 % 256 ≡ w / 256 % 256 = cc in
    let d : v % 256 ≡ w % 256 = cc in
    sym (join_bytes v l) ∙ rw (a, b, c, d) (join_bytes w m)

module _ (pool : List ℕ) (at : ℕ) (inside : at + 4 ≤ length pool) where
  four_bytes : range pool at 4 ≡ get_or pool at 0 ∷ get_or pool (at + 1) 0 ∷ get_or pool (at + 2) 0 ∷ get_or pool (at + 3) 0 ∷ []
  four_bytes =
      let e : at + 1 ≡ suc at = omega arith in
      let f : at + 2 ≡ suc (suc at) = omega arith in
      let g : at + 3 ≡ suc (suc (suc at)) = omega arith in
      rw (e, f, g, drop-cons pool at 0 (omega arith), drop-cons pool (suc at) 0 (omega arith))
      (rw (drop-cons pool (suc (suc at)) 0 (omega arith), drop-cons pool (suc (suc (suc at))) 0 (omega arith)))

  the_cell : cell_at pool at ≡ join (get_or pool at 0) (get_or pool (at + 1) 0) (get_or pool (at + 2) 0) (get_or pool (at + 3) 0)
  unfolding cell_at
  the_cell = rw (le-leb (at + 4) (length pool) inside)

  -- a cell below 2 ^ 32 whose bytes stand there is the one read
  cell_back : (w : ℕ) → w < 2 ^ 32 → range pool at 4 ≡ cell_bytes w → cell_at pool at ≡ w
  cell_back w h e = go (sym four_bytes ∙ e)
    where
      go : get_or pool at 0 ∷ get_or pool (at + 1) 0 ∷ get_or pool (at + 2) 0 ∷ get_or pool (at + 3) 0 ∷ [] ≡ cell_bytes w → cell_at pool at ≡ w
      go q =
          let a : get_or pool at 0 ≡ w / 16777216 % 256 = cc in
          let b : get_or pool (at + 1) 0 ≡ w / 65536 % 256 = cc in
          let c : get_or pool (at + 2) 0 ≡ w / 256 % 256 = cc in
          let d : get_or pool (at + 3) 0 ≡ w % 256 = cc in
          the_cell ∙ rw (a, b, c, d) (join_bytes w h)

  module _ (byte : (i : ℕ) → get_or pool i 0 < 256) where
    -- the bytes that stand there are those of the cell read
    pub cell_bytes_lem : range pool at 4 ≡ cell_bytes (cell_at pool at)
    cell_bytes_lem =
        four_bytes ∙ rw the_cell (sym (bytes_join _ _ _ _ (byte at) (byte (at + 1)) (byte (at + 2)) (byte (at + 3))))

-- a cell is below 2 ^ 32, also where it leaves the pool
pub cell_lt : (pool : List ℕ) (at : ℕ) → ((i : ℕ) → get_or pool i 0 < 256) → cell_at pool at < 2 ^ 32
unfolding cell_at
cell_lt pool at byte = go (leb (at + 4) (length pool))
  where
    go : (t : Bool) → cond t (join (get_or pool at 0) (get_or pool (at + 1) 0) (get_or pool (at + 2) 0) (get_or pool (at + 3) 0)) 0 < 2 ^ 32
    go true = join_lt _ _ _ _ (byte at) (byte (at + 1)) (byte (at + 2)) (byte (at + 3))
    go false = omega arith

cell_outside : (pool : List ℕ) (at : ℕ) → leb (at + 4) (length pool) ≡ false → cell_at pool at ≡ 0
unfolding cell_at
cell_outside pool at e = rw e

pub cell_missing : (pool : List ℕ) (at : ℕ) → length pool < at + 4 → cell_at pool at ≡ 0
cell_missing pool at lt = cell_outside pool at (lt-leb (at + 4) (length pool) lt)

-- four bytes from a place on, joined
pub cell_read :
    (pool : List ℕ) (at : ℕ) →
    at + 4 ≤ length pool →
    from_be_bytes w32 (get_or pool at 0 ∷ get_or pool (at + 1) 0 ∷ get_or pool (at + 2) 0 ∷ get_or pool (at + 3) 0 ∷ []) ≡ cell_at pool at
cell_read pool at inside = joined _ _ _ _ ∙ sym (the_cell pool at inside)
  where
    joined : (a b c d : ℕ) → from_be_bytes w32 (a ∷ b ∷ c ∷ d ∷ []) ≡ join a b c d
    joined a b c d = omega arith

-- the test of a cell is that of its four bytes; outside the pool 0 is read
pub cell_is :
    (pool : List ℕ) (at w : ℕ) →
    ((i : ℕ) → get_or pool i 0 < 256) →
    w < 2 ^ 32 →
    (w ≡ 0 → ⊥) →
    eqb (cell_at pool at) w ≡ range_is pool at 4 (cell_bytes w)
unfolding range_is
cell_is pool at w bytes small some = go (leb (at + 4) (length pool)) refl
  where
    go : (t : Bool) → leb (at + 4) (length pool) ≡ t → eqb (cell_at pool at) w ≡ cond t (same_list (range pool at 4) (cell_bytes w)) false
    go true e = let inside = leb-true (at + 4) (length pool) e in same_test inside (eqb (cell_at pool at) w) refl
      where
        same_test : at + 4 ≤ length pool → (t : Bool) → eqb (cell_at pool at) w ≡ t → t ≡ same_list (range pool at 4) (cell_bytes w)
        same_test inside true q =
            let holds : range pool at 4 ≡ cell_bytes w = cell_bytes_lem pool at inside bytes ∙ ap cell_bytes (eqb-true (cell_at pool at) w q) in
            rw holds (sym (same_refl (cell_bytes w)))
        same_test inside false q =
            sym
            (false_unless _ (λ h. eqb-false (cell_at pool at) w q (cell_back pool at inside w small (same_equal (range pool at 4) (cell_bytes w) h))))
    go false e = rw (cell_outside pool at e) (ne_eqb 0 w (λ z. some (sym z)))
