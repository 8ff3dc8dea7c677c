-- SPDX-License-Identifier: BSD-2-Clause OR GPL-2.0-or-later
-- The next zero byte, and the last one. Assumes nothing.
use mathlib.Core.Path.{◌≡◌, refl, sym, subst, ap, ◌∙◌}
use mathlib.Core.Bool.{Bool, true, false, cond}
use mathlib.Core.Logic.{⊎_elim, ◌≢◌}
use mathlib.Core.List.{List}
use Prim.Native.Nat.{ℕ, zero, suc, ◌+◌, ◌-◌, ◌≤◌, ◌<◌}
use native.Mathlib.Omega.{arith}
use lib.Dec.{eqb}
use lib.ListN.{length, get_or, drop, length-drop}
use lib.Seq.{get_or-drop}
use Rattle.std.specs.List.{slice_range}
use Rattle.std.proofs.lemmas.Slice.{between_to_end}
use borrow.Author.Tests.{eq-eqb, ne_eqb, eqb-true, eqb-false}
use Rattle.laws.proofs.SearchLaws.{lt_or_le}
use Rattle.tokens.specs.answers.Read.{zero_in, zero_from, behind_zero_in, behind_zero}

-- one byte is passed, or the search ends
pub zero_here : (bytes : List ℕ) (i : ℕ) → i < length bytes → get_or bytes i 0 ≡ 0 → zero_from bytes i ≡ i
unfolding zero_in zero_from
zero_here bytes i lt e = let s : length bytes - i ≡ suc (length bytes - (i + 1)) = omega arith in rw (s, eq-eqb (get_or bytes i 0) 0 e)

pub zero_next : (bytes : List ℕ) (i : ℕ) → i < length bytes → (get_or bytes i 0 ≡ 0 → ⊥) → zero_from bytes i ≡ zero_from bytes (i + 1)
unfolding zero_in zero_from
zero_next bytes i lt e = let s : length bytes - i ≡ suc (length bytes - (i + 1)) = omega arith in rw (s, ne_eqb (get_or bytes i 0) 0 e)

pub zero_end : (bytes : List ℕ) (i : ℕ) → length bytes ≤ i → zero_from bytes i ≡ i
unfolding zero_in zero_from
zero_end bytes i le = let s : length bytes - i ≡ 0 = omega arith in rw s

-- the next zero byte is not before the start, nor behind the end
zero_in_bounds : (bytes : List ℕ) (n i : ℕ) → (i ≤ zero_in bytes i n) × (zero_in bytes i n ≤ i + n)
unfolding zero_in
zero_in_bounds bytes zero i = (omega arith, omega arith)
zero_in_bounds bytes (suc n) i = go (eqb (get_or bytes i 0) 0) (zero_in_bounds bytes n (i + 1))
  where
    go :
        (b : Bool) →
        (i + 1 ≤ zero_in bytes (i + 1) n) × (zero_in bytes (i + 1) n ≤ i + 1 + n) →
        (i ≤ cond b i (zero_in bytes (i + 1) n)) × (cond b i (zero_in bytes (i + 1) n) ≤ i + suc n)
    go true h = (omega arith, omega arith)
    go false h = (omega (arith, h.0), omega (arith, h.1))

pub zero_not_before : (bytes : List ℕ) (i : ℕ) → i ≤ zero_from bytes i
unfolding zero_from
zero_not_before bytes i = (zero_in_bounds bytes (length bytes - i) i).0

pub zero_inside : (bytes : List ℕ) (i : ℕ) → i ≤ length bytes → zero_from bytes i ≤ length bytes
unfolding zero_from
zero_inside bytes i le = let b = zero_in_bounds bytes (length bytes - i) i in omega (arith, b.1)

-- bytes before the next zero byte are not zero, and the next zero byte is one
none_before : (bytes : List ℕ) (n i j : ℕ) → i ≤ j → j < zero_in bytes i n → get_or bytes j 0 ≡ 0 → ⊥
unfolding zero_in
none_before bytes zero i j le lt e = omega arith
none_before bytes (suc n) i j le lt e = go (eqb (get_or bytes i 0) 0) refl (λ l. none_before bytes n (i + 1) j l) lt
  where
    go :
        (b : Bool) →
        eqb (get_or bytes i 0) 0 ≡ b →
        (i + 1 ≤ j → j < zero_in bytes (i + 1) n → get_or bytes j 0 ≡ 0 → ⊥) →
        j < cond b i (zero_in bytes (i + 1) n) →
        ⊥
    go true q ih l = omega arith
    go false q ih l =
        ⊎_elim
        (λ more. ih (omega arith) l e)
        (λ less. let same : i ≡ j = omega arith in eqb-false (get_or bytes i 0) 0 q (subst (λ (k : ℕ). get_or bytes k 0 ≡ 0) (sym same) e))
        (lt_or_le i j)

zero_in_is : (bytes : List ℕ) (n i : ℕ) → zero_in bytes i n < i + n → get_or bytes (zero_in bytes i n) 0 ≡ 0
unfolding zero_in
zero_in_is bytes zero i lt = absurd (omega arith)
zero_in_is bytes (suc n) i lt = go (eqb (get_or bytes i 0) 0) refl (zero_in_is bytes n (i + 1)) lt
  where
    go :
        (b : Bool) →
        eqb (get_or bytes i 0) 0 ≡ b →
        (zero_in bytes (i + 1) n < i + 1 + n → get_or bytes (zero_in bytes (i + 1) n) 0 ≡ 0) →
        cond b i (zero_in bytes (i + 1) n) < i + suc n →
        get_or bytes (cond b i (zero_in bytes (i + 1) n)) 0 ≡ 0
    go true q ih l = eqb-true (get_or bytes i 0) 0 q
    go false q ih l = ih (omega arith)

pub zero_before : (bytes : List ℕ) (i j : ℕ) → i ≤ j → j < zero_from bytes i → get_or bytes j 0 ≡ 0 → ⊥
unfolding zero_from
zero_before bytes i j le lt e = none_before bytes (length bytes - i) i j le lt e

pub zero_is : (bytes : List ℕ) (i : ℕ) → zero_from bytes i < length bytes → get_or bytes (zero_from bytes i) 0 ≡ 0
unfolding zero_from
zero_is bytes i lt =
    let low = (zero_in_bounds bytes (length bytes - i) i).0 in
    zero_in_is bytes (length bytes - i) i (omega arith)

-- a zero byte stands before the place behind the last one
zero_behind : (bytes : List ℕ) (n m : ℕ) → m < n → get_or bytes m 0 ≡ 0 → m < behind_zero_in bytes n
unfolding behind_zero_in
zero_behind bytes zero m lt e = absurd (omega arith)
zero_behind bytes (suc n) m lt e = go (eqb (get_or bytes n 0) 0) refl (λ l. zero_behind bytes n m l e)
  where
    go : (b : Bool) → eqb (get_or bytes n 0) 0 ≡ b → (m < n → m < behind_zero_in bytes n) → m < cond b (suc n) (behind_zero_in bytes n)
    go true q ih = lt
    go false q ih =
        ⊎_elim
        ih
        (λ more. let same : m ≡ n = omega arith in absurd (eqb-false (get_or bytes n 0) 0 q (subst (λ (k : ℕ). get_or bytes k 0 ≡ 0) same e)))
        (lt_or_le m n)

pub before_behind : (bytes : List ℕ) (m : ℕ) → m < length bytes → get_or bytes m 0 ≡ 0 → m < behind_zero bytes
unfolding behind_zero
before_behind bytes m lt e = zero_behind bytes (length bytes) m lt e

-- before that place, a zero byte is at hand or follows
behind_zero_in_lem : (bytes : List ℕ) (n x : ℕ) → x < behind_zero_in bytes n → (m : ℕ) × (m < n) × (x ≤ m) × (get_or bytes m 0 ≡ 0)
unfolding behind_zero_in
behind_zero_in_lem bytes zero x lt = absurd (omega arith)
behind_zero_in_lem bytes (suc n) x lt = go (eqb (get_or bytes n 0) 0) refl (behind_zero_in_lem bytes n x) lt
  where
    Goal : ℕ → Type 0
    Goal k = (m : ℕ) × (m < k) × (x ≤ m) × (get_or bytes m 0 ≡ 0)

    go : (b : Bool) → eqb (get_or bytes n 0) 0 ≡ b → (x < behind_zero_in bytes n → Goal n) → x < cond b (suc n) (behind_zero_in bytes n) → Goal (suc n)
    go true q ih l = (n, omega arith, omega arith, eqb-true (get_or bytes n 0) 0 q)
    go false q ih l = let r = ih l in (r.0, omega (arith, r.1), r.2, r.3)

pub behind_before : (bytes : List ℕ) (x : ℕ) → x < behind_zero bytes → (m : ℕ) × (m < length bytes) × (x ≤ m) × (get_or bytes m 0 ≡ 0)
unfolding behind_zero
behind_before bytes x lt = behind_zero_in_lem bytes (length bytes) x lt

-- the last zero byte, by where it stands, and where there is none
pub behind_last :
    (bytes : List ℕ) (i : ℕ) →
    i < length bytes →
    get_or bytes i 0 ≡ 0 →
    ((k : ℕ) → i + 1 ≤ k → k < length bytes → get_or bytes k 0 ≢ 0) →
    i + 1 ≡ behind_zero bytes
behind_last bytes i lt e after =
    ⊎_elim
    (λ more. let z = behind_before bytes (i + 1) more in absurd (after z.0 z.2 z.1 z.3))
    (λ less. let low = before_behind bytes i lt e in omega arith)
    (lt_or_le (i + 1) (behind_zero bytes))

pub behind_nowhere : (bytes : List ℕ) → ((k : ℕ) → k < length bytes → get_or bytes k 0 ≢ 0) → 0 ≡ behind_zero bytes
behind_nowhere bytes none =
    ⊎_elim
    (λ more. let z = behind_before bytes 0 more in absurd (none z.0 z.1 z.3))
    (λ less. omega arith)
    (lt_or_le 0 (behind_zero bytes))

-- the next zero byte stands in the bytes, if any follows
pub zero_follows : (bytes : List ℕ) (i m : ℕ) → i ≤ m → m < length bytes → get_or bytes m 0 ≡ 0 → zero_from bytes i < length bytes
zero_follows bytes i m le lt e =
    ⊎_elim (λ less. less) (λ more. absurd (zero_before bytes i m le (omega arith) e)) (lt_or_le (zero_from bytes i) (length bytes))

-- .. and where it stands
zero_first :
    (bytes : List ℕ) (i m : ℕ) →
    i ≤ m →
    m < length bytes →
    get_or bytes m 0 ≡ 0 →
    ((k : ℕ) → i ≤ k → k < m → get_or bytes k 0 ≢ 0) →
    m ≡ zero_from bytes i
zero_first bytes i m le lt e before =
    let low = zero_not_before bytes i in
    let late : zero_from bytes i ≤ m = ⊎_elim (λ less. absurd (zero_before bytes i m le less e)) (λ more. more) (lt_or_le m (zero_from bytes i)) in
    ⊎_elim
    (λ less. absurd (before (zero_from bytes i) low less (zero_is bytes i (omega arith))))
    (λ more. omega arith)
    (lt_or_le (zero_from bytes i) m)

-- the same of the part from a place on
module _ (bytes rest : List ℕ) (from : ℕ) (inside : from ≤ length bytes) (part : rest ≡ slice_range bytes from (length bytes)) where
  whole : rest ≡ drop from bytes
  whole = part ∙ between_to_end bytes from (length bytes) (omega arith)

  long : from + length rest ≡ length bytes
  long = omega (arith, ap length whole, length-drop from bytes)

  byte_of : (k : ℕ) → get_or rest k 0 ≡ get_or bytes (from + k) 0
  byte_of k = ap (λ (l : List ℕ). get_or l k 0) whole ∙ get_or-drop from bytes k 0

  byte_behind : (k : ℕ) → from ≤ k → get_or rest (k - from) 0 ≡ get_or bytes k 0
  byte_behind k le = let back : from + (k - from) ≡ k = omega arith in byte_of (k - from) ∙ ap (λ (j : ℕ). get_or bytes j 0) back

  pub zero_found :
      (i : ℕ) → i < length rest → get_or rest i 0 ≡ 0 → ((k : ℕ) → k < i → get_or rest k 0 ≢ 0) → from + i ≡ zero_from bytes from
  zero_found i lt e before =
      zero_first bytes from (from + i) (omega arith) (omega (arith, long)) (sym (byte_of i) ∙ e)
      (λ k le less q. before (k - from) (omega arith) (byte_behind k le ∙ q))

  pub zero_nowhere : ((k : ℕ) → k < length rest → get_or rest k 0 ≢ 0) → length bytes ≡ zero_from bytes from
  zero_nowhere none =
      let z = zero_from bytes from in
      let low = zero_not_before bytes from in
      let high = zero_inside bytes from inside in
      ⊎_elim (λ less. absurd (none (z - from) (omega (arith, long)) (byte_behind z low ∙ zero_is bytes from less))) (λ more. omega arith)
      (lt_or_le z (length bytes))
