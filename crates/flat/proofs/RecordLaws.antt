-- SPDX-License-Identifier: BSD-2-Clause OR GPL-2.0-or-later
-- Lists made of records of one length, each of which has a property. Assumes nothing.
use mathlib.Core.Path.{◌≡◌, ◌∙◌}
use mathlib.Core.List.{List, [], ◌++◌, append_assoc}
use Prim.Native.Nat.{ℕ, zero, suc, ◌+◌, ◌*◌, ◌<◌}
use native.Mathlib.Omega.{arith}
use native.Mathlib.Nat.{mul-suc, mul-zero}
use lib.ListN.{length, get_or, length-append}
use lib.Seq.{take_at, drop-append-add, get_or-take, get_or-drop}
use Rattle.laws.proofs.BlockLaws.{block}

-- records of `size` words, each with the property
pub data Records (size : ℕ) (P : List ℕ → Type 0) : List ℕ → Type 0 where
  none : Records size P []
  more : (r : List ℕ) {rest : List ℕ} → length r ≡ size → P r → Records size P rest → Records size P (r ++ rest)

module _ {size : ℕ} {P : List ℕ → Type 0} where
  pub records_append : {xs ys : List ℕ} → Records size P xs → Records size P ys → Records size P (xs ++ ys)
  records_append none s = s
  records_append {ys} (more r {rest} e p h) s = rw (append_assoc r rest ys) (more r e p (records_append h s))

  -- no record is cut
  pub records_whole : {l : List ℕ} → Records size P l → (n : ℕ) × (length l ≡ size * n)
  records_whole none = (0, rw (mul-zero size))
  records_whole (more r {rest} e p h) =
      let w = records_whole h in
      let n = w.0 in
      (suc n, length-append r rest ∙ rw (mul-suc size n) (omega (arith, w.1)))

  -- record k
  pub record_at : {l : List ℕ} → Records size P l → (k : ℕ) → size * k < length l → P (block size l k)
  record_at none k lt = absurd (omega arith)
  record_at (more r {rest} e p h) zero lt = rw (mul-zero size, take_at r rest size e) p
  record_at (more r {rest} e p h) (suc k) lt =
      let s = mul-suc size k in
      let behind : size * suc k ≡ length r + size * k = omega arith in
      rw (behind, drop-append-add r rest (size * k)) (record_at h k (omega (arith, length-append r rest)))

-- a word of a record
pub record_word : (size : ℕ) (l : List ℕ) (k i : ℕ) → i < size → get_or (block size l k) i 0 ≡ get_or l (size * k + i) 0
record_word size l k i lt = rw (get_or-take, get_or-drop)
