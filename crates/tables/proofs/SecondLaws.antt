-- SPDX-License-Identifier: BSD-2-Clause OR GPL-2.0-or-later
-- The second place: what a lookup finds, and what is told of no property. Assumes nothing.
use mathlib.Core.Path.{◌≡◌, refl, sym, ap, ◌∙◌}
use mathlib.Core.Bool.{Bool, true, false, cond}
use mathlib.Core.Logic.{⊎_elim}
use mathlib.Core.List.{List, [], ◌∷◌}
use Prim.Native.Nat.{ℕ, zero, suc, ◌≤◌}
use native.Mathlib.Omega.{arith}
use lib.Dec.{eqb}
use borrow.Author.Tests.{eqb-true, eqb-false}
use Rattle.laws.specs.facts.First.{has}
use Rattle.laws.specs.facts.Limits.{no_property}
use Rattle.laws.specs.facts.Told.{Fault}
use Rattle.laws.specs.answers.Fault.{told, or_else, first_fault, with_second}
use Rattle.laws.proofs.SearchLaws.{true_false}
use Rattle.laws.proofs.FaultLaws.{first_is}
use Rattle.laws.proofs.SecondPlaceLaws.{first_plain}
use Rattle.tables.specs.facts.Binding.{reg_key, cpu_key, phandle_key, device_type_key, address_cells_key, size_cells_key}
use Rattle.tables.specs.facts.Board.{Board, prop_count}
use Rattle.tables.specs.facts.Property.{Property}
use Rattle.tables.specs.facts.Second.{Concerns, Second}
use Rattle.tables.specs.answers.Lookup.{lookup, record_of}
use Rattle.tables.proofs.LookupLaws.{lookup_cases}

-- the second place of a number that speaks of a property is what the lookup of that property finds
pub second_found : (b : Board) {n : ℕ} (p : ℕ) {key : List ℕ} → Concerns n key → Second b n p (record_of (lookup b.props b.pool p key))
second_found b p {key} c =
    ⊎_elim
    (λ t. rw t.1 (Second.found c t.2.holds))
    (λ t. rw t.0 (Second.missing c t.1))
    (lookup_cases b p key)

-- the numbers that speak of a property
abbrev pub spoken : List ℕ
spoken = 11 ∷ 12 ∷ 17 ∷ 24 ∷ 36 ∷ 37 ∷ []

is_spoken : {n : ℕ} {key : List ℕ} → Concerns n key → has spoken n ≡ true
is_spoken Concerns.device_type = refl
is_spoken Concerns.reg = refl
is_spoken Concerns.phandle = refl
is_spoken Concerns.cpu = refl
is_spoken Concerns.address_cells = refl
is_spoken Concerns.size_cells = refl

pub no_concern : {n : ℕ} {key : List ℕ} → has spoken n ≡ false → Concerns n key → ⊥
no_concern other c = true_false (is_spoken c) other

pub first_unspoken : (f : ℕ → ℕ) (n : ℕ) → ((k : ℕ) → has spoken (f k) ≡ false) → has spoken (first_fault f n).number ≡ false
first_unspoken f n other = go (eqb (first_fault f n).number 0) refl
  where
    go : (t : Bool) → eqb (first_fault f n).number 0 ≡ t → has spoken (first_fault f n).number ≡ false
    go true e = ap (has spoken) (eqb-true (first_fault f n).number 0 e)
    go false e =
        let found = (first_is f n).found (eqb-false (first_fault f n).number 0 e) in
        ap (has spoken) (sym found.1) ∙ other (first_fault f n).place

-- what is told has the second place of its number and place
abbrev pub HasSecond : Board → Fault → Type 0
HasSecond b f = Second b f.number f.place f.second

module _ (b : Board) where
  -- a number that is none of them is told of no property
  pub unspoken : {n s : ℕ} (p : ℕ) → has spoken n ≡ false → s ≡ no_property → Second b n p s
  unspoken p other e = rw e (Second.none (λ key. no_concern other))

  pub told_second : (v i : ℕ) → has spoken v ≡ false → HasSecond b (told v i)
  told_second zero i other = unspoken 0 refl refl
  told_second (suc v) i other = unspoken i other refl

  pub else_second : (f g : Fault) → HasSecond b f → HasSecond b g → HasSecond b (or_else f g)
  else_second f g h k = go (eqb f.number 0)
    where
      go : (t : Bool) → HasSecond b (cond t g f)
      go true = k
      go false = h

  pub first_second : (f : ℕ → ℕ) (n : ℕ) → ((k : ℕ) → has spoken (f k) ≡ false) → HasSecond b (first_fault f n)
  first_second f n other = unspoken (first_fault f n).place (first_unspoken f n other) (first_plain f n)

  -- a second place by the place that is told
  pub with_second_lem :
      (s : ℕ → ℕ) (f : Fault) → ((f.number ≡ 0 → ⊥) → Second b f.number f.place (s f.place)) → HasSecond b (with_second s f)
  with_second_lem s f h = go (eqb f.number 0) refl
    where
      go : (t : Bool) → eqb f.number 0 ≡ t → Second b f.number f.place (cond t no_property (s f.place))
      go true e = unspoken f.place (ap (has spoken) (eqb-true f.number 0 e)) refl
      go false e = h (eqb-false f.number 0 e)

-- a number speaks of one property
key_for : ℕ → List ℕ
key_for n =
    cond (eqb n 11) device_type_key
    (cond (eqb n 12) reg_key (cond (eqb n 17) phandle_key (cond (eqb n 24) cpu_key (cond (eqb n 36) address_cells_key size_cells_key))))

key_for_lem : {n : ℕ} {key : List ℕ} → Concerns n key → key ≡ key_for n
unfolding key_for
key_for_lem Concerns.device_type = refl
key_for_lem Concerns.reg = refl
key_for_lem Concerns.phandle = refl
key_for_lem Concerns.cpu = refl
key_for_lem Concerns.address_cells = refl
key_for_lem Concerns.size_cells = refl

key_unique : {n : ℕ} {key other : List ℕ} → Concerns n key → Concerns n other → key ≡ other
key_unique c d = key_for_lem c ∙ sym (key_for_lem d)

-- where a record has one property of a name at most, there is one second place
pub second_unique :
    {b : Board} {n p q r : ℕ} →
    ((key : List ℕ) (j k : ℕ) → Property b p key j → Property b p key k → j ≡ k) →
    Second b n p q →
    Second b n p r →
    q ≡ r
second_unique one (Second.found c g) (Second.found d h) = one _ _ _ (rw (key_unique c d) at g) h
second_unique one (Second.found {k = k} c g) (Second.missing d none) = absurd (none k (rw (key_unique c d) at g))
second_unique one (Second.found {key = key} c g) (Second.none none) = absurd (none key c)
second_unique one (Second.missing c none) (Second.found {k = k} d h) = absurd (none k (rw (key_unique d c) at h))
second_unique one (Second.missing c none) (Second.missing d other) = refl
second_unique one (Second.missing c none) (Second.none other) = refl
second_unique one (Second.none none) (Second.found {key = key} d h) = absurd (none key d)
second_unique one (Second.none none) (Second.missing d other) = refl
second_unique one (Second.none none) (Second.none other) = refl

-- a number that speaks of no property has none as its second place, and a second place is a property record or none
pub second_silent : {b : Board} {n p s : ℕ} → ((key : List ℕ) → Concerns n key → ⊥) → Second b n p s → s ≡ no_property
second_silent silent (Second.found {key = key} c _) = absurd (silent key c)
second_silent silent (Second.missing _ _) = refl
second_silent silent (Second.none _) = refl

pub second_bound : {b : Board} {n p s : ℕ} → prop_count b.props ≤ no_property → Second b n p s → s ≤ no_property
second_bound few (Second.found _ h) = omega (arith, h.inside)
second_bound few (Second.missing _ _) = omega arith
second_bound few (Second.none _) = omega arith
