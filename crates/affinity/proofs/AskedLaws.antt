-- SPDX-License-Identifier: BSD-2-Clause OR GPL-2.0-or-later
-- The slot of one MPIDR asked behind other rules: the first broken one is told, 30 last, and else the slot. Assumes nothing.
use mathlib.Core.Path.{◌≡◌, refl}
use mathlib.Core.Bool.{Bool, true, false, cond}
use mathlib.Core.List.{List}
use Prim.Native.Nat.{ℕ, suc, ◌≤◌, ◌<◌}
use native.Mathlib.Omega.{arith}
use lib.Dec.{eqb}
use borrow.Author.Tests.{eqb-true, eqb-false}
use Rattle.laws.specs.facts.Told.{Fault}
use Rattle.laws.specs.facts.First.{First}
use Rattle.laws.specs.facts.Listing.{Member}
use Rattle.laws.specs.answers.Fault.{told, or_else}
use Rattle.laws.specs.answers.Search.{is_among}
use Rattle.laws.proofs.DecideLaws.{among_decides}
use Rattle.laws.proofs.FirstLaws.{Tells}
use Rattle.laws.proofs.RuleStageLaws.{Split, split_tells, tells_as, tells_first, tells_none}
use Rattle.laws.proofs.VerdictLaws.{unless, once_tells}
use Rattle.affinity.specs.facts.Told.{ListSlot}
use Rattle.affinity.specs.facts.List.{SlotRule}
use Rattle.affinity.specs.answers.List.{slot_behind}

-- no place is above that of the fault
pub asked_place : (f : Fault) (known : Bool) (slot : ℕ) {n : ℕ} → f.place ≤ n → (slot_behind f known slot).place ≤ n
asked_place f known slot {n} le = go (eqb f.number 0) refl known
  where
    go : (t : Bool) → eqb f.number 0 ≡ t → (d : Bool) → (slot_behind f d slot).place ≤ n
    go true e true = rw e (omega arith)
    go true e false = rw e (omega arith)
    go false e d = rw e le

module _
    (stage : ℕ → ℕ) {R : ℕ → ℕ → Type 0} {f : Fault} (staged : (n p : ℕ) → R n p → stage n < stage 30)
    (tells : Tells stage R 0 (stage 30) f) (list : List ℕ) (mpidr slot : ℕ) where
  abbrev S : ℕ → ℕ → Type 0
  S = SlotRule R list mpidr

  unknown_broken : {m q : ℕ} → S m q → stage m ≡ stage 30 → (m ≡ 30) × (q ≡ 0) × (Member list mpidr → ⊥)
  unknown_broken (SlotRule.earlier r) e = absurd (omega (arith, staged _ _ r))
  unknown_broken (SlotRule.list_unknown out) e = (refl, refl, out)

  slot_staged : {n p : ℕ} → S n p → stage n < suc (stage 30)
  slot_staged (SlotRule.earlier r) = omega (arith, staged _ _ r)
  slot_staged (SlotRule.list_unknown out) = omega arith

  from_parts : {n p : ℕ} → Split stage (stage 30) R S n p → S n p
  from_parts (Split.early r _) = SlotRule.earlier r
  from_parts (Split.late s _) = s

  to_parts : {n p : ℕ} → S n p → Split stage (stage 30) R S n p
  to_parts (SlotRule.earlier r) = Split.early r (staged _ _ r)
  to_parts (SlotRule.list_unknown out) = Split.late (SlotRule.list_unknown out) (omega arith)

  slot_tells : Tells stage S 0 (suc (stage 30)) (or_else f (told (cond (is_among list mpidr) 0 30) 0))
  slot_tells =
      tells_as (λ n p. from_parts) (λ n p. to_parts)
      (split_tells stage (stage 30) (omega arith) (omega arith) tells λ _.
      once_tells stage S 30 (omega arith) (λ m q. unknown_broken) (unless (among_decides list mpidr) SlotRule.list_unknown))

  -- what a refusal tells, and what an acceptance gives
  abbrev Refused : ListSlot → Type 0
  Refused r = First stage S r.number r.place × (r.slot ≡ 0)

  abbrev Accepted : ListSlot → Type 0
  Accepted r = (f.number ≡ 0) × Member list mpidr × (r.place ≡ 0) × (r.slot ≡ slot) × ((n p : ℕ) → S n p → ⊥)

  pub asked :
      let r = slot_behind f (is_among list mpidr) slot in
      ((r.number ≡ 0 → ⊥) → Refused r) × (r.number ≡ 0 → Accepted r)
  asked = go (eqb f.number 0) refl (is_among list mpidr) refl
    where
      go :
          (t : Bool) →
          eqb f.number 0 ≡ t →
          (d : Bool) →
          is_among list mpidr ≡ d →
          let r = slot_behind f (is_among list mpidr) slot in
          ((r.number ≡ 0 → ⊥) → Refused r) × (r.number ≡ 0 → Accepted r)
      go true e true k =
          let none = rw (e, k) at (tells_none (λ n p. slot_staged) slot_tells) in
          rw (e, k)
          (λ ne. absurd (ne refl), λ z. (eqb-true f.number 0 e, (among_decides list mpidr).0 k, refl, refl, none z))
      go true e false k =
          let first = rw (e, k) at (tells_first (λ n p. slot_staged) slot_tells) in
          rw (e, k) (λ ne. (first ne, refl), λ z. absurd (omega arith))
      go false e d k =
          let first = rw e at (tells_first (λ n p. slot_staged) slot_tells) in
          rw e (λ ne. (first ne, refl), λ z. absurd (eqb-false f.number 0 e z))
