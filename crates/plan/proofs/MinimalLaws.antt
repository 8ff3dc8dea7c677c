-- SPDX-License-Identifier: BSD-2-Clause OR GPL-2.0-or-later
-- A thinned list of positions: none of them can be dropped, and there is one such list. Assumes nothing.
use mathlib.Core.Path.{◌≡◌, refl, sym, ap, ◌∙◌}
use mathlib.Core.Logic.{inl, inr, ⊎_elim}
use mathlib.Core.List.{List}
use Prim.Native.Nat.{ℕ, zero, suc, ◌+◌, ◌-◌, ◌≤◌, ◌<◌}
use native.Mathlib.Omega.{arith}
use lib.ListN.{length, get_or, take, drop, length-append, length-drop, get_or-append}
use lib.Seq.{get_or-append-add, get_or-take, get_or-drop, length-take-le}
use Rattle.laws.specs.facts.Listing.{Member, Listing}
use Rattle.laws.proofs.SearchLaws.{lt_or_le, below_suc}
use Rattle.laws.proofs.FirstLaws.{compared}
use Rattle.laws.proofs.ListingLaws.{listing_unique}
use Rattle.plan.specs.facts.Plan.{SeparatedAt, drop_at}
use Rattle.plan.specs.facts.Planner.{LeftAt, Thinned}
use Rattle.plan.proofs.SeparateLaws.{separates_more}

-- a member of a list without the one at an index has another index in the list
drop_member : (l : List ℕ) (i x : ℕ) → i < length l → Member (drop_at i l) x → (n : ℕ) × (n < length l) × (n ≡ i → ⊥) × (get_or l n 0 ≡ x)
drop_member l i x lt m = ⊎_elim before behind (lt_or_le n i)
  where
    n : ℕ
    n = m.index

    front : length (take i l) ≡ i
    front = length-take-le i l (omega arith)

    size : length (drop_at i l) ≡ i + (length l - suc i)
    size = length-append (take i l) (drop (suc i) l) ∙ omega (arith, front, length-drop (suc i) l)

    before : n < i → (k : ℕ) × (k < length l) × (k ≡ i → ⊥) × (get_or l k 0 ≡ x)
    before b = (
      n,
      omega arith,
      λ e. omega arith,
      sym (get_or-append (take i l) (drop (suc i) l) 0 n (omega (arith, front)) ∙ get_or-take i l n 0 b) ∙ m.here,
    )

    behind : i ≤ n → (k : ℕ) × (k < length l) × (k ≡ i → ⊥) × (get_or l k 0 ≡ x)
    behind b =
        let e : n ≡ length (take i l) + (n - i) = omega (arith, front) in
        let g : get_or (drop_at i l) n 0 ≡ get_or l (suc i + (n - i)) 0 =
        ap (λ (k : ℕ). get_or (drop_at i l) k 0) e ∙ get_or-append-add (take i l) (drop (suc i) l) (n - i) 0 ∙ get_or-drop (suc i) l (n - i) 0 in
        (suc i + (n - i), omega (arith, size, m.inside), λ f. omega arith, sym g ∙ m.here)

pub thinned_minimal :
    (list positions : List ℕ) → Thinned list positions → (i : ℕ) → i < length positions → SeparatedAt list (drop_at i positions) → ⊥
thinned_minimal list positions h i lt sep =
    (h.only i lt).needed
    (separates_more list (Member (drop_at i positions)) (LeftAt list positions p) (λ x m. left x (drop_member positions i x lt m)) sep)
  where
    p : ℕ
    p = get_or positions i 0

    left : (x : ℕ) → (n : ℕ) × (n < length positions) × (n ≡ i → ⊥) × (get_or positions n 0 ≡ x) → LeftAt list positions p x
    left x t =
        ⊎_elim
        (λ b. inl (rw t.3 at (h.rising t.0 i b lt), record { index = t.0; inside = t.1; here = t.3 }))
        (⊎_elim
        (λ e. absurd (t.2 e))
        (λ b. inr (rw t.3 at (h.rising i t.0 b t.1), rw t.3 at (h.only t.0 t.1).in_mask)))
        (compared t.0 i)

-- below k two such lists have the same members, so they keep the same at k
step :
    (list l m : List ℕ) →
    Thinned list l →
    Thinned list m →
    (k : ℕ) →
    ((j : ℕ) → j < k → Member m j → Member l j) →
    Member l k →
    Member m k
step list l m h g k same x =
    let kept = rw x.here at (h.only x.index x.inside) in
    let more = separates_more list (LeftAt list m k) (LeftAt list l k) left in
    g.all k (record { in_mask = kept.in_mask; needed = λ sep. kept.needed (more sep) })
  where
    left : (j : ℕ) → LeftAt list m k j → LeftAt list l k j
    left j (inl t) = inl (t.0, same j t.0 t.1)
    left j (inr t) = inr t

same_below :
    (list l m : List ℕ) →
    Thinned list l →
    Thinned list m →
    (n k : ℕ) →
    k < n →
    (Member l k → Member m k) × (Member m k → Member l k)
same_below list l m h g zero k lt = absurd (omega arith)
same_below list l m h g (suc n) k lt =
    let ih = same_below list l m h g n in
    below_suc {P = λ j. (Member l j → Member m j) × (Member m j → Member l j)} n ih
    (step list l m h g n (λ j b. (ih j b).1), step list m l g h n (λ j b. (ih j b).0))
    k lt

pub thinned_unique : (list l m : List ℕ) → Thinned list l → Thinned list m → l ≡ m
thinned_unique list l m h g = listing_unique l m {P = Member l} own other
  where
    same : (k : ℕ) → (Member l k → Member m k) × (Member m k → Member l k)
    same k = same_below list l m h g (suc k) k (omega arith)

    own : Listing (Member l) l
    own = record { rising = h.rising; only = λ i lt. record { index = i; inside = lt; here = refl }; all = λ x p. p }

    other : Listing (Member l) m
    other =
        record {
          rising = g.rising;
          only = λ i lt. (same (get_or m i 0)).1 (record { index = i; inside = lt; here = refl });
          all = λ x p. (same x).0 p;
        }
