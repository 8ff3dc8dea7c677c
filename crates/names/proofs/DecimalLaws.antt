-- SPDX-License-Identifier: BSD-2-Clause OR GPL-2.0-or-later
-- The digits that are read as a number are exactly its decimal digits. Assumes nothing.
use Rattle.std.specs.Prelude.{None, Option, Some}
use mathlib.Core.Path.{◌≡◌, refl, sym, ap, ◌∙◌}
use mathlib.Core.Bool.{Bool, true, false, cond}
use mathlib.Core.Logic.{⊎_elim}
use mathlib.Core.List.{List, [], ◌∷◌, ◌++◌, append-nil, append_assoc}
use Prim.Native.Nat.{ℕ, zero, suc, ◌+◌, ◌-◌, ◌*◌, ◌/◌, ◌%◌, ◌^◌, ◌≤◌, ◌<◌}
use native.Mathlib.Nat.{pow-suc, one-le-pow}
use native.Mathlib.Omega.{arith}
use lib.Dec.{eqb, ltb}
use lib.ListN.{length, get_or, length-append, get_or-append}
use borrow.Author.Tests.{ltb-false, eqb-false, lt-ltb, le-ltb, ne_eqb}
use Rattle.laws.proofs.SearchLaws.{lt_or_le}
use Rattle.names.specs.facts.Kind.{decimal_in, decimal}
use Rattle.names.specs.answers.Name.{digits_from, number_of}

-- no number is not a number
pub not_is : {A : Type 0} {n : ℕ} → None ≡ Some n → A
not_is {A} {n} h = let z : ◌≡◌ {A = ℕ} 0 1 = cc in absurd (omega arith)

-- a byte that is read as a digit, and what is read after it
digit_in : (d n : ℕ) (x : Option ℕ) → cond (ltb d 48) None (cond (ltb 57 d) None x) ≡ Some n → (48 ≤ d) × (d ≤ 57) × (x ≡ Some n)
digit_in d n x h = go (ltb d 48) refl (ltb 57 d) refl h
  where
    go :
        (a : Bool) →
        ltb d 48 ≡ a →
        (b : Bool) →
        ltb 57 d ≡ b →
        cond a None (cond b None x) ≡ Some n →
        (48 ≤ d) × (d ≤ 57) × (x ≡ Some n)
    go true p b q g = not_is g
    go false p true q g = not_is g
    go false p false q g = (ltb-false d 48 p, ltb-false 57 d q, g)

digit_read : (v d : ℕ) (ds : List ℕ) → d < 10 → digits_from v ((48 + d) ∷ ds) ≡ digits_from (v * 10 + d) ds
unfolding digits_from
digit_read v d ds h =
    let e : 48 + d - 48 ≡ d = omega arith in
    rw (le-ltb (48 + d) 48 (omega arith), le-ltb 57 (48 + d) (omega arith), e)

-- decimal digits: one, or those of the tenth part and one more
decimal_one : (k n : ℕ) → n < 10 → decimal_in (suc k) n ≡ (48 + n) ∷ []
unfolding decimal_in
decimal_one k n h = rw (lt-ltb n 10 h)

decimal_more : (k n : ℕ) → 10 ≤ n → decimal_in (suc k) n ≡ decimal_in k (n / 10) ++ ((48 + n % 10) ∷ [])
unfolding decimal_in
decimal_more k n h = rw (le-ltb n 10 h)

decimal_ind :
    (P : ℕ → ℕ → List ℕ → Type 0) →
    ((k n : ℕ) → n < 10 → P (suc k) n ((48 + n) ∷ [])) →
    ((k n : ℕ) (ds : List ℕ) → 10 ≤ n → P k (n / 10) ds → P (suc k) n (ds ++ ((48 + n % 10) ∷ []))) →
    (k n : ℕ) →
    n < 10 ^ suc k →
    P (suc k) n (decimal_in (suc k) n)
decimal_ind P one more zero n h = rw (decimal_one 0 n h) (one 0 n h)
decimal_ind P one more (suc k) n h =
    let ih = decimal_ind P one more k (n / 10) (omega (arith, pow-suc 10 (suc k))) in
    ⊎_elim (λ lt. rw (decimal_one (suc k) n lt) (one (suc k) n lt)) (λ le. rw (decimal_more (suc k) n le) (more (suc k) n _ le ih)) (lt_or_le n 10)

-- the decimal digits of n are read as n
decimal_read : (k n : ℕ) → n < 10 ^ suc k → (rest : List ℕ) → digits_from 0 (decimal_in (suc k) n ++ rest) ≡ digits_from n rest
decimal_read =
    decimal_ind (λ (k n : ℕ) (ds : List ℕ). (rest : List ℕ) → digits_from 0 (ds ++ rest) ≡ digits_from n rest)
    (λ k n h rest. digit_read 0 n rest h ∙ ap (λ (v : ℕ). digits_from v rest) (omega arith))
    (λ k n ds h ih rest.
    rw append_assoc (ih ((48 + n % 10) ∷ rest)) ∙ digit_read (n / 10) (n % 10) rest (omega arith) ∙ ap (λ (v : ℕ). digits_from v rest) (omega arith))

-- there is a digit, there are no more than asked for, and the first is not zero but in 0 itself
decimal_shape :
    (k n : ℕ) →
    n < 10 ^ suc k →
    (0 < length (decimal_in (suc k) n)) × (length (decimal_in (suc k) n) ≤ suc k) × (0 < n → get_or (decimal_in (suc k) n) 0 0 ≡ 48 → ⊥)
decimal_shape =
    decimal_ind (λ (k n : ℕ) (ds : List ℕ). (0 < length ds) × (length ds ≤ k) × (0 < n → get_or ds 0 0 ≡ 48 → ⊥))
    (λ k n h. (omega arith, omega arith, λ p e. omega arith))
    (λ k n ds h ih. (
      simp length-append (omega arith),
      simp length-append (omega arith),
      λ p e. ih.2 (omega arith) (sym (get_or-append ds ((48 + n % 10) ∷ []) 0 0 ih.0) ∙ e),
    ))

-- the last digit
pub decimal_ends : (n : ℕ) → (front : List ℕ) × (decimal n ≡ front ++ ((48 + n % 10) ∷ []))
decimal_ends n =
    ⊎_elim
    (λ lt. let small : n % 10 ≡ n = omega arith in ([], decimal_one 3 n lt ∙ rw small))
    (λ le. (decimal_in 3 (n / 10), decimal_more 3 n le))
    (lt_or_le n 10)

-- digits of such a shape are read one after the other
number_digits : (ds : List ℕ) → 0 < length ds → length ds ≤ 4 → (get_or ds 0 0 ≡ 48 → ⊥) → number_of ds ≡ digits_from 0 ds
unfolding number_of
number_digits ds some few first =
    rw (ne_eqb (length ds) 0 (omega arith), le-ltb 4 (length ds) few, ne_eqb (get_or ds 0 0) 48 first) (same (ltb 1 (length ds)))
  where
    same : (b : Bool) → cond (cond b false false) None (digits_from 0 ds) ≡ digits_from 0 ds
    same true = refl
    same false = refl

number_positive : (n : ℕ) → 0 < n → n < 10000 → number_of (decimal n) ≡ Some n
unfolding digits_from
number_positive n p h =
    let s = decimal_shape 3 n h in
    number_digits (decimal n) s.0 s.1 (s.2 p) ∙ ap (digits_from 0) (sym (append-nil (decimal n))) ∙ decimal_read 3 n h []

pub number_decimal : (n : ℕ) → n < 10000 → number_of (decimal n) ≡ Some n
unfolding number_of decimal_in digits_from
number_decimal zero h = refl
number_decimal (suc n) h = number_positive (suc n) (omega arith) h

-- the tests that digits pass
number_tests :
    (ds : List ℕ) (n : ℕ) → number_of ds ≡ Some n → (length ds ≤ 4) × (1 < length ds → get_or ds 0 0 ≡ 48 → ⊥) × (digits_from 0 ds ≡ Some n)
unfolding number_of
number_tests ds n h = go (eqb (length ds) 0) (ltb 4 (length ds)) refl (ltb 1 (length ds)) refl (eqb (get_or ds 0 0) 48) refl h
  where
    go :
        (a b : Bool) →
        ltb 4 (length ds) ≡ b →
        (c : Bool) →
        ltb 1 (length ds) ≡ c →
        (d : Bool) →
        eqb (get_or ds 0 0) 48 ≡ d →
        cond a None (cond b None (cond (cond c d false) None (digits_from 0 ds))) ≡ Some n →
        (length ds ≤ 4) × (1 < length ds → get_or ds 0 0 ≡ 48 → ⊥) × (digits_from 0 ds ≡ Some n)
    go true b p c q d r g = not_is g
    go false true p c q d r g = not_is g
    go false false p true q true r g = not_is g
    go false false p true q false r g = (ltb-false 4 (length ds) p, λ _. eqb-false (get_or ds 0 0) 48 r, g)
    go false false p false q d r g = (ltb-false 4 (length ds) p, λ m _. omega (arith, ltb-false 1 (length ds) q), g)

-- digits read after v stand after the digits of v
digits_written :
    (ds : List ℕ) (k m v n : ℕ) →
    k + length ds ≡ m →
    (0 < length ds → 0 < v) →
    v < 10 ^ k →
    digits_from v ds ≡ Some n →
    (n < 10 ^ m) × (decimal_in m n ≡ decimal_in k v ++ ds)
unfolding digits_from
digits_written [] k m v n s p q h =
    let same : v ≡ n = cc in
    let all : k ≡ m = omega arith in
    (rw (same, all) at q, rw (append-nil, same, all))
digits_written (d ∷ ds) k m v n s p q h =
    let t = digit_in d n (digits_from (v * 10 + (d - 48)) ds) h in
    let positive : 0 < v = p (omega arith) in
    let tenth : (v * 10 + (d - 48)) / 10 ≡ v = omega (arith, t.0, t.1) in
    let last : 48 + (v * 10 + (d - 48)) % 10 ≡ d = omega (arith, t.0, t.1) in
    let r = digits_written ds (suc k) m (v * 10 + (d - 48)) n (omega arith) (λ _. omega arith) (omega (arith, pow-suc 10 k, t.1)) t.2 in
    (r.0, r.1 ∙ rw (decimal_more k (v * 10 + (d - 48)) (omega arith), tenth, last) (append_assoc (decimal_in k v) (d ∷ []) ds))

pub decimal_number : (ds : List ℕ) (n : ℕ) → number_of ds ≡ Some n → (n < 10000) × (ds ≡ decimal n)
unfolding number_of digits_from
decimal_number [] n h = not_is h
decimal_number (d ∷ ds) n h =
    let t = number_tests (d ∷ ds) n h in
    let k = 3 - length ds in
    let v = 0 * 10 + (d - 48) in
    let r = digit_in d n (digits_from v ds) t.2 in
    let few : length ds ≤ 3 = omega (arith, t.0) in
    let positive : 0 < length ds → 0 < v = λ p. let ne : d ≡ 48 → ⊥ = t.1 (omega arith) in omega (arith, r.0) in
    let small : v < 10 ^ suc k = omega (arith, pow-suc 10 k, one-le-pow k 10 (omega arith), r.0, r.1) in
    let byte : 48 + v ≡ d = omega (arith, r.0) in
    let w = digits_written ds (suc k) 4 v n (omega arith) positive small r.2 in
    (w.0, sym (w.1 ∙ rw (decimal_one k v (omega (arith, r.1)), byte)))
