-- SPDX-License-Identifier: BSD-2-Clause OR GPL-2.0-or-later
-- Eight bytes of a number, and one number more read behind others. Assumes nothing.
use mathlib.Core.Path.{◌≡◌, refl, sym, ap, ap₂, ◌∙◌}
use mathlib.Core.List.{List, [], ◌∷◌, ◌++◌}
use Prim.Native.Nat.{ℕ, zero, suc, ◌+◌, ◌-◌, ◌*◌, ◌≤◌, ◌<◌}
use native.Mathlib.Nat.{mul-zero, mul-suc, add_comm}
use native.Mathlib.Numerals.{add-one}
use native.Mathlib.Omega.{arith}
use lib.ListN.{length, get_or, take, drop, set, drop_of_length-le}
use lib.Seq.{take-take, drop-drop, length-take-le}
use Rattle.std.specs.Array.{IsFirstChunk}
use Rattle.std.specs.Int.{w64, from_le_bytes}
use Rattle.std.specs.List.{slice_range}
use borrow.Author.Tests.{lt-ltb, le-ltb}
use Rattle.laws.specs.answers.Listed.{laid_over}
use Rattle.laws.proofs.OverLaws.{over_push}
use Rattle.wire.specs.facts.Bytes.{number_of, held, number_size}
use Rattle.wire.specs.answers.Read.{number_at}
use Rattle.wire.proofs.ByteLaws.{held_length}

-- the byte at a place, and the rest
number_step : (n : ℕ) (bytes : List ℕ) → number_of (drop n bytes) ≡ get_or bytes n 0 + 256 * number_of (drop (suc n) bytes)
unfolding number_of
number_step zero [] = refl
number_step zero (b ∷ bs) = refl
number_step (suc n) [] = refl
number_step (suc n) (b ∷ bs) = number_step n bs

-- eight bytes, joined
number_eight : (bytes : List ℕ) → length bytes ≡ number_size → from_le_bytes w64 bytes ≡ number_of bytes
unfolding number_of
number_eight bytes eight =
    let few : length bytes ≤ 8 = omega arith in
    let none = ap number_of (drop_of_length-le bytes few) in
    omega (
      arith,
      number_step 0 bytes,
      number_step 1 bytes,
      number_step 2 bytes,
      number_step 3 bytes,
      number_step 4 bytes,
      number_step 5 bytes,
      number_step 6 bytes,
      number_step 7 bytes,
      none,
    )

-- a number that has its bytes
pub number_there :
    (bytes : List ℕ) (at : ℕ) →
    at + number_size ≤ length bytes →
    number_at bytes at ≡ number_of (take number_size (drop at bytes))
unfolding number_at
number_there bytes at le = rw (le-ltb (length bytes) (at + number_size) le)

pub number_missing : (bytes : List ℕ) (at : ℕ) → length bytes < at + number_size → number_at bytes at ≡ 0
unfolding number_at
number_missing bytes at lt = rw (lt-ltb (length bytes) (at + number_size) lt)

-- eight bytes from a place on, joined
pub number_read :
    (at : ℕ) (bytes chunk : List ℕ) →
    at + number_size ≤ length bytes →
    IsFirstChunk (slice_range bytes at (at + number_size)) chunk number_size →
    from_le_bytes w64 chunk ≡ number_at bytes at
number_read at bytes chunk inside first =
    let size : at + number_size - at ≡ number_size = omega arith in
    let part : slice_range bytes at (at + number_size) ≡ take number_size (drop at bytes) = rw size in
    let same : chunk ≡ take number_size (drop at bytes) =
    first.same ∙ ap (take number_size) part ∙ take-take number_size number_size (drop at bytes) (omega arith) in
    number_eight chunk (ap length first.same ∙ length-take-le number_size (slice_range bytes at (at + number_size)) first.enough)
    ∙ ap number_of same
    ∙ sym (number_there bytes at inside)

-- one number more, the last
held_more :
    (size k : ℕ) (bytes : List ℕ) → held size (suc k) bytes ≡ held size k bytes ++ (number_of (take size (drop (size * k) bytes)) ∷ [])
unfolding held
held_more size zero bytes = rw (mul-zero size)
held_more size (suc k) bytes =
    ap (λ (l : List ℕ). number_of (take size bytes) ∷ l)
    (rw (mul-suc size k, add_comm (size * k) size, ← drop-drop (size * k) size bytes) (held_more size k (drop size bytes)))

-- the front of a list filled with numbers read: one number more
pub read_more :
    (size k : ℕ) (bytes before : List ℕ) {x : ℕ} {now : List ℕ} →
    k < length before →
    x ≡ number_of (take size (drop (size * k) bytes)) →
    now ≡ laid_over (held size k bytes) before →
    set now k x ≡ laid_over (held size (k + 1) bytes) before
read_more size k bytes before lt e h =
    ap₂ (λ (l : List ℕ) (y : ℕ). set l k y) h e
    ∙ over_push (held size k bytes) before (number_of (take size (drop (size * k) bytes))) k (held_length size k bytes) lt
    ∙ ap (λ (l : List ℕ). laid_over l before) (sym (held_more size k bytes) ∙ ap (λ (n : ℕ). held size n bytes) (sym (add-one k)))

-- a number of those held, by its place
pub held_at : (size n k : ℕ) (bytes : List ℕ) → k < n → get_or (held size n bytes) k 0 ≡ number_of (take size (drop (size * k) bytes))
unfolding held
held_at size zero k bytes lt = absurd (omega arith)
held_at size (suc n) zero bytes lt = rw (mul-zero size)
held_at size (suc n) (suc k) bytes lt =
    held_at size n k (drop size bytes) (omega arith) ∙ rw (mul-suc size k, add_comm (size * k) size, ← drop-drop (size * k) size bytes)
