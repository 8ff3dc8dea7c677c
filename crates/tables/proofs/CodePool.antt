-- SPDX-License-Identifier: BSD-2-Clause OR GPL-2.0-or-later
-- Words and ranges: what the code that compares them needs. Assumes nothing.
use mathlib.Core.Path.{◌≡◌, refl, sym, ap, ◌∙◌}
use mathlib.Core.Bool.{Bool, true, false, cond, ◌&&◌}
use mathlib.Core.List.{List, [], ◌∷◌}
use Prim.Native.Nat.{ℕ, ◌+◌, ◌≤◌, ◌<◌}
use native.Mathlib.Nat.{add-zero}
use native.Mathlib.Omega.{arith}
use lib.Dec.{eqb, leb}
use lib.ListN.{length, get_or, take, drop, length-drop}
use lib.Seq.{length-take-le}
use Rattle.std.specs.Array.{IsFirstChunk}
use Rattle.std.specs.List.{slice_range}
use Rattle.std.proofs.lemmas.Slice.{between_to_end}
use borrow.Author.Tests.{leb-true, le-leb, lt-leb}
use Rattle.std.specs.Cmp.Lexicographic.{pointwise}
use Rattle.laws.specs.answers.Same.{same_list}
use Rattle.laws.proofs.SameLaws.{same_length}
use Rattle.tables.specs.facts.Board.{range}
use Rattle.tables.specs.answers.Range.{range_is}

-- field 0 of a record is its first word
pub word_zero : (words : List ℕ) (start : ℕ) → get_or words (start + 0) 0 ≡ get_or words start 0
word_zero words start = rw (add-zero start)

-- a range inside the pool has its length
pub range_length : (pool : List ℕ) (offset len : ℕ) → offset + len ≤ length pool → length (range pool offset len) ≡ len
range_length pool offset len le = length-take-le len (drop offset pool) (rw (length-drop offset pool) (omega arith))

-- a range of another length does not hold the bytes
pub other_length : (pool : List ℕ) (offset len : ℕ) (bytes : List ℕ) → (len ≡ length bytes → ⊥) → false ≡ range_is pool offset len bytes
unfolding range_is
other_length pool offset len bytes ne = go (leb (offset + len) (length pool)) refl
  where
    go : (t : Bool) → leb (offset + len) (length pool) ≡ t → false ≡ cond t (same_list (range pool offset len) bytes) false
    go true e = sym (same_length _ _ (λ q. ne (sym (range_length pool offset len (leb-true _ _ e)) ∙ q)))
    go false e = refl

-- a range that leaves the pool does not hold the bytes
pub range_outside : (pool : List ℕ) (offset len : ℕ) (bytes : List ℕ) → length pool < offset + len → false ≡ range_is pool offset len bytes
unfolding range_is
range_outside pool offset len bytes lt = rw (lt-leb (offset + len) (length pool) lt) refl

-- the bytes from a place on, and the first of these
pub range_chunk :
    (pool rest chunk bytes : List ℕ) (offset len : ℕ) →
    offset ≤ length pool →
    rest ≡ slice_range pool offset (length pool) →
    IsFirstChunk rest chunk len →
    same_list chunk bytes ≡ range_is pool offset len bytes
unfolding range_is
range_chunk pool rest chunk bytes offset len inside part first =
    let whole : rest ≡ drop offset pool = part ∙ between_to_end pool offset (length pool) (omega arith) in
    let same : chunk ≡ range pool offset len = first.same ∙ ap (take len) whole in
    let long : offset + len ≤ length pool = omega (arith, first.enough, ap length whole, length-drop offset pool) in
    rw (same, le-leb (offset + len) (length pool) long) refl

-- what `==` answers of two slices
pub same_pointwise : (a b : List ℕ) → pointwise eqb a b ≡ same_list a b
unfolding same_list
same_pointwise [] [] = refl
same_pointwise [] (y ∷ ys) = refl
same_pointwise (x ∷ xs) [] = refl
same_pointwise (x ∷ xs) (y ∷ ys) = go (eqb x y) (same_pointwise xs ys)
  where
    go : (t : Bool) → pointwise eqb xs ys ≡ same_list xs ys → (t && pointwise eqb xs ys) ≡ cond t (same_list xs ys) false
    go true e = e
    go false e = refl
