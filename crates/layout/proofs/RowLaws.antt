-- SPDX-License-Identifier: BSD-2-Clause OR GPL-2.0-or-later
-- The words of a row: how many, the four of the path, and that they make the row; and a row in a part. Assumes nothing.
use mathlib.Core.Path.{◌≡◌, refl, sym, ◌∙◌}
use mathlib.Core.List.{List, [], ◌∷◌, ◌++◌}
use Prim.Native.Nat.{ℕ, zero, suc, ◌≤◌, ◌<◌}
use native.Mathlib.Omega.{arith}
use lib.ListN.{length, get_or, drop}
use lib.Seq.{ext_get_or, get_or-append-add}
use borrow.Author.Tests.{le-ltb}
use Rattle.laws.proofs.SearchLaws.{below_suc}
use Rattle.layout.specs.declared.Row.{Row}
use Rattle.layout.specs.facts.Row.{row_size, row_leaf, row_cpu, row_upper, row_lower, row_socket, row_cluster, row_core, row_thread, row_slot}
use Rattle.layout.specs.answers.Words.{row_words, with_row}

pub row_length : (r : Row) → length (row_words r) ≡ row_size
unfolding row_words
row_length r = refl

pub row_path : (r : Row) (d : ℕ) → d < 4 → row_cluster (row_words r) d ≡ get_or r.path d 0
unfolding row_words
row_path r d lt =
    get_or-append-add (r.leaf ∷ r.cpu ∷ r.upper ∷ r.lower ∷ r.socket ∷ []) (path ++ (r.core ∷ r.thread ∷ r.slot ∷ [])) d 0 ∙ at d lt
  where
    path : List ℕ
    path = get_or r.path 0 0 ∷ get_or r.path 1 0 ∷ get_or r.path 2 0 ∷ get_or r.path 3 0 ∷ []

    at : (d : ℕ) → d < 4 → get_or (path ++ (r.core ∷ r.thread ∷ r.slot ∷ [])) d 0 ≡ get_or r.path d 0
    at zero lt = refl
    at (suc zero) lt = refl
    at (suc (suc zero)) lt = refl
    at (suc (suc (suc zero))) lt = refl
    at (suc (suc (suc (suc d)))) lt = absurd (omega arith)

-- two rows whose words are the same
module _ (r s : List ℕ) where
  with_next : (n : ℕ) → ((k : ℕ) → k < n → get_or r k 0 ≡ get_or s k 0) → get_or r n 0 ≡ get_or s n 0 → (k : ℕ) → k < suc n → get_or r k 0 ≡ get_or s k 0
  with_next n = below_suc {P = λ k. get_or r k 0 ≡ get_or s k 0} n

  pub row_same :
      length r ≡ row_size →
      length s ≡ row_size →
      row_leaf r ≡ row_leaf s →
      row_cpu r ≡ row_cpu s →
      row_upper r ≡ row_upper s →
      row_lower r ≡ row_lower s →
      row_socket r ≡ row_socket s →
      ((d : ℕ) → d < 4 → row_cluster r d ≡ row_cluster s d) →
      row_core r ≡ row_core s →
      row_thread r ≡ row_thread s →
      row_slot r ≡ row_slot s →
      r ≡ s
  row_same lr ls leaf cpu upper lower socket cluster core thread slot = ext_get_or 0 r s (lr ∙ sym ls) (λ k lt. words k (rw lr at lt))
    where
      front : (k : ℕ) → k < 5 → get_or r k 0 ≡ get_or s k 0
      front = with_next 4 (with_next 3 (with_next 2 (with_next 1 (with_next 0 (λ k lt. absurd (omega arith)) leaf) cpu) upper) lower) socket

      path : (k : ℕ) → k < 9 → get_or r k 0 ≡ get_or s k 0
      path =
          with_next 8
          (with_next 7 (with_next 6 (with_next 5 front (cluster 0 (omega arith))) (cluster 1 (omega arith))) (cluster 2 (omega arith)))
          (cluster 3 (omega arith))

      words : (k : ℕ) → k < row_size → get_or r k 0 ≡ get_or s k 0
      words = with_next 11 (with_next 10 (with_next 9 path core) thread) slot

-- a part that has the room
pub with_row_lem : (r : Row) (part : List ℕ) → row_size ≤ length part → with_row r part ≡ row_words r ++ drop row_size part
unfolding with_row
with_row_lem r part room = rw (le-ltb (length part) row_size room)
