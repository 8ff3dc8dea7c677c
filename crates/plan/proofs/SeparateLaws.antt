-- SPDX-License-Identifier: BSD-2-Clause OR GPL-2.0-or-later
-- Bits that tell the numbers of a list apart, and the test for them. Assumes nothing.
use mathlib.Core.Path.{◌≡◌, refl, sym, ap, ◌∙◌}
use mathlib.Core.Bool.{Bool, true, false, cond}
use mathlib.Core.Logic.{⊎_elim}
use mathlib.Core.List.{List}
use Prim.Native.Nat.{ℕ, zero, suc, ◌+◌, ◌^◌, ◌≤◌, ◌<◌}
use native.Mathlib.Nat.{pow-suc, lt_of_lt_of_le}
use native.Mathlib.Omega.{arith}
use lib.Bits.{bit_and}
use lib.Dec.{eqb}
use lib.ListN.{length, get_or}
use lib.Pow.{pow_mono}
use borrow.Author.Tests.{eq-eqb, ne_eqb, eqb-true, eqb-false}
use Rattle.laws.specs.facts.Digit.{digit}
use Rattle.laws.specs.facts.Listing.{Member}
use Rattle.laws.specs.answers.Search.{any_below}
use Rattle.laws.proofs.SearchLaws.{true_false, any_at, any_place}
use Rattle.laws.proofs.TestLaws.{false_unless}
use Rattle.laws.proofs.DecideLaws.{Decides, eq_decides, any_decides, holds_unless}
use Rattle.laws.proofs.FirstLaws.{compared}
use Rattle.laws.proofs.DigitLaws.{digit_lt, digit_and}
use Rattle.laws.proofs.FromDigitLaws.{digit_not_one, digit_ext_below}
use Rattle.plan.specs.facts.Plan.{Separates}
use Rattle.plan.specs.answers.Check.{clash, clashes_at, clashes}

-- the ones of a number
abbrev pub Ones : ℕ → ℕ → Type 0
Ones n k = digit n k ≡ 1

-- more bits still separate a list
pub separates_more : (list : List ℕ) (P Q : ℕ → Type 0) → ((k : ℕ) → P k → Q k) → Separates list P → Separates list Q
separates_more list P Q more h x y p q ne =
    let d = h x y p q ne in
    record { bit = d.bit; kind = more d.bit d.kind; differs = d.differs }

-- different numbers differ at a digit
lt_pow : (n : ℕ) → n < 2 ^ n
lt_pow zero = omega arith
lt_pow (suc n) = rw (pow-suc 2 n) (omega (arith, lt_pow n))

pub differ_digit : (a b : ℕ) → (a ≡ b → ⊥) → (k : ℕ) × (digit a k ≡ digit b k → ⊥)
differ_digit a b ne = go (any_below test (a + b)) refl
  where
    test : ℕ → Bool
    test k = cond (eqb (digit a k) (digit b k)) false true

    small : (n : ℕ) → n ≤ a + b → n < 2 ^ (a + b)
    small n le = lt_of_lt_of_le (lt_pow n) (pow_mono le)

    go : (t : Bool) → any_below test (a + b) ≡ t → (k : ℕ) × (digit a k ≡ digit b k → ⊥)
    go true e = let t = any_place test (a + b) e in (t.0, λ same. true_false t.2 (rw (eq-eqb (digit a t.0) (digit b t.0) same)))
    go false e = absurd (ne (digit_ext_below a b (a + b) (small a (omega arith)) (small b (omega arith)) same))
      where
        same : (k : ℕ) → k < a + b → digit a k ≡ digit b k
        same k lt =
            holds_unless (eq_decides (digit a k) (digit b k)) (λ diff.
            true_false (any_at test k (a + b) lt (rw (ne_eqb (digit a k) (digit b k) diff))) e)

-- two numbers differ, and not in the bits to keep
abbrev Clash : ℕ → ℕ → ℕ → Type 0
Clash keep a b = (bit_and a keep ≡ bit_and b keep) × (a ≡ b → ⊥)

clash_decides : (keep a b : ℕ) → Decides (clash keep a b) (Clash keep a b)
clash_decides keep a b = (
  go (eqb (bit_and a keep) (bit_and b keep)) refl (eqb a b) refl,
  λ c. rw (eq-eqb (bit_and a keep) (bit_and b keep) c.0, ne_eqb a b c.1),
)
  where
    go :
        (s : Bool) →
        eqb (bit_and a keep) (bit_and b keep) ≡ s →
        (t : Bool) →
        eqb a b ≡ t →
        cond s (cond t false true) false ≡ true →
        Clash keep a b
    go true e true f g = true_false g refl
    go true e false f g = (eqb-true _ _ e, eqb-false a b f)
    go false e t f g = true_false g refl

module _ (list : List ℕ) (keep : ℕ) where
  abbrev at : ℕ → ℕ
  at i = get_or list i 0

  clashes_decides : Decides (clashes list keep) ((j : ℕ) × (j < length list) × ((i : ℕ) × (i < j) × Clash keep (at i) (at j)))
  unfolding clashes
  clashes_decides =
      any_decides (clashes_at list keep) (length list) (λ j _.
      any_decides (λ i. clash keep (at i) (at j)) j (λ i _. clash_decides keep (at i) (at j)))

  -- no two clash: the bits to keep separate the list
  pub clear_separates : clashes list keep ≡ false → Separates list (Ones keep)
  clear_separates none x y p q ne =
      let d = differ_digit (bit_and x keep) (bit_and y keep) apart in
      let k = d.0 in
      let dx = digit_and x keep k in
      let dy = digit_and y keep k in
      record {
        bit = k;
        kind = holds_unless (eq_decides (digit keep k) 1) (λ out. d.1 (omega (arith, dx, dy, digit_not_one keep k out)));
        differs = λ same. d.1 (omega (arith, dx, dy, same));
      }
    where
      pair : (i j : ℕ) → i < j → j < length list → Clash keep (at i) (at j) → ⊥
      pair i j lt in_j c = true_false (clashes_decides.1 (j, in_j, (i, lt, c))) none

      places : (i j : ℕ) → i < length list → j < length list → bit_and (at i) keep ≡ bit_and (at j) keep → (at i ≡ at j → ⊥) → ⊥
      places i j in_i in_j e diff =
          ⊎_elim
          (λ lt. pair i j lt in_j (e, diff))
          (⊎_elim (λ same. diff (ap at same)) (λ lt. pair j i lt in_i (sym e, λ same. diff (sym same))))
          (compared i j)

      apart : bit_and x keep ≡ bit_and y keep → ⊥
      apart e =
          places p.index q.index p.inside q.inside (rw (p.here, q.here) e) (λ same. ne (sym p.here ∙ same ∙ q.here))

  -- and only then
  pub separates_clear : Separates list (Ones keep) → clashes list keep ≡ false
  separates_clear h =
      false_unless (clashes list keep) (λ t.
      let c = clashes_decides.0 t in
      pair c.2.0 c.0 (omega (arith, c.1, c.2.1)) c.1 c.2.2)
    where
      member : (i : ℕ) → i < length list → Member list (at i)
      member i in_i = record { index = i; inside = in_i; here = refl }

      pair : (i j : ℕ) → i < length list → j < length list → Clash keep (at i) (at j) → ⊥
      pair i j in_i in_j c =
          let d = h (at i) (at j) (member i in_i) (member j in_j) c.1 in
          let k = d.bit in
          d.differs (omega (
            arith,
            d.kind,
            ap (λ (n : ℕ). digit n k) c.0,
            digit_and (at i) keep k,
            digit_and (at j) keep k,
            digit_lt (at i) k,
            digit_lt (at j) k,
          ))
