-- SPDX-License-Identifier: BSD-2-Clause OR GPL-2.0-or-later
-- What is wrong with a list, and what follows where nothing is. Assumes nothing.
use mathlib.Core.Path.{◌≡◌, refl, sym, ap, ◌∙◌}
use mathlib.Core.Bool.{Bool, true, false, cond}
use mathlib.Core.List.{List}
use Prim.Native.Nat.{ℕ, ◌≤◌}
use native.Mathlib.Omega.{arith}
use lib.Dec.{eqb, ltb, lit≤}
use lib.ListN.{length, get_or}
use borrow.Author.Tests.{ne_eqb, eqb-false, ltb-false, le-ltb}
use Rattle.laws.specs.answers.Fault.{clear, told}
use Rattle.laws.specs.answers.Search.{is_among}
use Rattle.laws.proofs.FaultLaws.{first_is, clear_below, place_le}
use Rattle.laws.proofs.OrElseLaws.{or_clear}
use Rattle.affinity.specs.facts.Told.{ListMask}
use Rattle.affinity.specs.declared.mask.Gathered.{Gathered}
use Rattle.affinity.specs.answers.Level.{is_affine}
use Rattle.affinity.specs.answers.Hash.{slot_in}
use Rattle.affinity.specs.answers.Mask.{mask_of}
use Rattle.affinity.specs.steps.Mask.{gathered}
use Rattle.affinity.specs.answers.List.{length_fault, bit_fault, first_outside, list_fault, mask_answer, hash_answer, slot_answer}
use Rattle.affinity.specs.steps.List.{AllAffine}
use Rattle.affinity.proofs.AffineLaws.{test_affine, affine_passes}
use Rattle.affinity.proofs.MaskLaws.{some_affine}
use Rattle.affinity.proofs.AskedLaws.{asked_place}

bit_affine : (x : ℕ) → bit_fault x ≡ 0 → is_affine x ≡ true
bit_affine x h = go (is_affine x) refl h
  where
    go : (b : Bool) → is_affine x ≡ b → ◌≡◌ {A = ℕ} (cond b 0 29) 0 → is_affine x ≡ true
    go true e z = e
    go false e z = absurd (omega arith)

module _ (list : List ℕ) where
  -- no number told: no bit outside
  clear_affine : (first_outside list).number ≡ 0 → AllAffine list
  unfolding first_outside
  clear_affine h i lt =
      test_affine (get_or list i 0) (bit_affine (get_or list i 0) (((first_is (λ k. bit_fault (get_or list k 0)) (length list)).none h).1 i lt))

  -- where the or of a list has no bit outside, 29 is not told
  pub some_clear : (g : Gathered) (t : Bool) → g ≡ gathered list → t ≡ is_affine g.some → t ≡ true → first_outside list ≡ clear
  unfolding first_outside gathered
  some_clear g t e q h =
      let some = test_affine g.some (sym q ∙ h) in
      clear_below (λ k. bit_fault (get_or list k 0)) (length list) (λ i lt. rw (affine_passes (get_or list i 0) (some_affine list (rw e at some) i lt)))

  -- within the limits of length, 29 is what may be told
  pub fault_within : (length list ≡ 0 → ⊥) → length list ≤ 256 → list_fault list ≡ first_outside list
  unfolding list_fault
  fault_within ne le = rw (ne_eqb (length list) 0 ne, le-ltb 256 (length list) le)

  -- no fault: no bit outside
  pub fault_affine : (list_fault list).number ≡ 0 → AllAffine list
  unfolding list_fault
  fault_affine h = clear_affine (or_clear (told (length_fault (length list)) 0) (first_outside list) h).1

  -- no place is above 256
  pub fault_place_le : (list_fault list).place ≤ 256
  unfolding list_fault first_outside
  fault_place_le = go (eqb (length list) 0) refl (ltb 256 (length list)) refl
    where
      go : (b : Bool) → eqb (length list) 0 ≡ b → (d : Bool) → ltb 256 (length list) ≡ d → (list_fault list).place ≤ 256
      go true e d f = rw e (lit≤ tt)
      go false e true f = rw (e, f) (lit≤ tt)
      go false e false f = rw (e, f) (omega (arith, place_le (λ k. bit_fault (get_or list k 0)) (length list), ltb-false 256 (length list) f))

  pub hash_place_le : (hash_answer list).place ≤ 256
  unfolding hash_answer
  hash_place_le = go (eqb (list_fault list).number 0) refl
    where
      go : (b : Bool) → eqb (list_fault list).number 0 ≡ b → (hash_answer list).place ≤ 256
      go true e = rw e (lit≤ tt)
      go false e = rw e fault_place_le

  pub slot_place_le : (mpidr : ℕ) → (slot_answer mpidr list).place ≤ 256
  unfolding slot_answer
  slot_place_le mpidr = asked_place (list_fault list) (is_among list mpidr) (slot_in list mpidr) fault_place_le

  -- the answer to "the mask of a list", told by its number
  abbrev accepted : ListMask
  accepted = record { number = 0; place = 0; mask = mask_of list }

  abbrev refused : ListMask
  refused = record { number = (list_fault list).number; place = (list_fault list).place; mask = 0 }

  pub mask_refused : (a : ListMask) → a ≡ mask_answer list → (a.number ≡ 0 → ⊥) → (eqb (list_fault list).number 0 ≡ false) × (a ≡ refused)
  unfolding mask_answer
  mask_refused a e ne = go (eqb (list_fault list).number 0) refl e
    where
      go : (b : Bool) → eqb (list_fault list).number 0 ≡ b → a ≡ cond b accepted refused → (eqb (list_fault list).number 0 ≡ false) × (a ≡ refused)
      go true f g = absurd (ne (ap (λ (x : ListMask). x.number) g))
      go false f g = (f, g)

  pub mask_accepted : (a : ListMask) → a ≡ mask_answer list → a.number ≡ 0 → (eqb (list_fault list).number 0 ≡ true) × (a.mask ≡ mask_of list)
  unfolding mask_answer
  mask_accepted a e z = go (eqb (list_fault list).number 0) refl e
    where
      go :
          (b : Bool) →
          eqb (list_fault list).number 0 ≡ b →
          a ≡ cond b accepted refused →
          (eqb (list_fault list).number 0 ≡ true) × (a.mask ≡ mask_of list)
      go true f g = (f, ap (λ (x : ListMask). x.mask) g)
      go false f g = absurd (eqb-false (list_fault list).number 0 f (sym (ap (λ (x : ListMask). x.number) g) ∙ z))
