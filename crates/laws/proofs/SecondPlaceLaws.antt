-- SPDX-License-Identifier: BSD-2-Clause OR GPL-2.0-or-later
-- What is told, with a second place and without one. Assumes nothing.
use mathlib.Core.Path.{◌≡◌, refl, ap}
use mathlib.Core.Bool.{Bool, true, false, cond}
use Prim.Native.Nat.{ℕ, zero, suc}
use lib.Dec.{eqb}
use borrow.Author.Tests.{ne_eqb}
use Rattle.laws.specs.facts.Told.{Fault}
use Rattle.laws.specs.facts.Limits.{no_property}
use Rattle.laws.specs.answers.Fault.{told, or_else, first_fault, with_second}
use Rattle.laws.proofs.FirstLaws.{Tells}

module _ (s : ℕ → ℕ) where
  pub second_at : (v i : ℕ) → (v ≡ 0 → ⊥) → with_second s (told v i) ≡ record { number = v; place = i; second = s i }
  second_at zero i ne = absurd (ne refl)
  second_at (suc v) i ne = rw (ne_eqb (suc v) 0 ne)

  -- it tells the same rules
  pub second_tells :
      {stage : ℕ → ℕ} {R : ℕ → ℕ → Type 0} {from to : ℕ} {f : Fault} → Tells stage R from to f → Tells stage R from to (with_second s f)
  second_tells t = record { told = t.told; none = λ z. let u = t.none z in (ap (with_second s) u.0, u.1) }

-- what tells of no property
abbrev pub Plain : Fault → Type 0
Plain f = f.second ≡ no_property

pub told_plain : (v i : ℕ) → Plain (told v i)
told_plain zero i = refl
told_plain (suc v) i = refl

pub else_plain : (a b : Fault) → Plain a → Plain b → Plain (or_else a b)
else_plain a b p q = go (eqb a.number 0)
  where
    go : (t : Bool) → Plain (cond t b a)
    go true = q
    go false = p

pub first_plain : (f : ℕ → ℕ) (n : ℕ) → Plain (first_fault f n)
unfolding first_fault
first_plain f zero = refl
first_plain f (suc n) = else_plain (first_fault f n) (told (f n) n) (first_plain f n) (told_plain (f n) n)
