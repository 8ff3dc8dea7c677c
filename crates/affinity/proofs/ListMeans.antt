-- SPDX-License-Identifier: BSD-2-Clause OR GPL-2.0-or-later
-- The answers of a list tell the first of rules 28 to 30 that is broken, and else the hash and the slot. Assumes nothing.
use mathlib.Core.Path.{◌≡◌, refl, sym, subst}
use mathlib.Core.Bool.{Bool, true, false, cond}
use mathlib.Core.List.{List}
use Prim.Native.Nat.{ℕ, ◌≤◌, ◌<◌}
use native.Mathlib.Omega.{arith}
use lib.Dec.{eqb, ltb}
use lib.ListN.{length, get_or}
use borrow.Author.Tests.{eqb-true, eqb-false, ltb-true, ltb-false}
use Rattle.laws.proofs.FirstLaws.{Tells, stage_tells}
use Rattle.laws.proofs.RuleStageLaws.{then_tells, tells_first, tells_none}
use Rattle.laws.proofs.VerdictLaws.{Verdict, unless, number_stage, once_tells}
use Rattle.affinity.specs.facts.Told.{ListHash}
use Rattle.affinity.specs.facts.Told.{ListSlot}
use Rattle.affinity.specs.facts.Level.{Affine}
use Rattle.affinity.specs.answers.Hash.{hash_of, slot_in}
use Rattle.affinity.specs.answers.List.{length_fault, bit_fault, first_outside, list_fault, hash_answer, slot_answer}
use Rattle.affinity.specs.facts.List.{ListRule, list_stage, HashDemands, SlotDemands}
use Rattle.affinity.proofs.AffineLaws.{test_affine, affine_passes}
use Rattle.affinity.proofs.ListLaws.{fault_affine}
use Rattle.affinity.proofs.HashMeans.{hash_is}
use Rattle.affinity.proofs.AskedLaws.{asked}

module _ (list : List ℕ) where
  abbrev R : ℕ → ℕ → Type 0
  R = ListRule list

  -- rule 28
  abbrev Size : Type 0
  Size = (0 < length list) × (length list ≤ 256)

  size_told : Verdict R 28 0 Size (length_fault (length list))
  size_told = go (eqb (length list) 0) refl (ltb 256 (length list)) refl
    where
      go : (s : Bool) → eqb (length list) 0 ≡ s → (t : Bool) → ltb 256 (length list) ≡ t → Verdict R 28 0 Size (cond s 28 (cond t 28 0))
      go true e t f = Verdict.broken (ListRule.list_length_empty (eqb-true _ _ e))
      go false e true f = Verdict.broken (ListRule.list_length_many (ltb-true _ _ f))
      go false e false f = Verdict.sound (omega (arith, eqb-false (length list) 0 e), ltb-false _ _ f)

  size_broken : {m q : ℕ} → R m q → list_stage m ≡ list_stage 28 → (m ≡ 28) × (q ≡ 0) × (Size → ⊥)
  size_broken (ListRule.list_length_empty z) e = (refl, refl, λ s. omega (arith, s.0))
  size_broken (ListRule.list_length_many gt) e = (refl, refl, λ s. omega (arith, s.1))
  size_broken (ListRule.list_mpidr i lt outside) e = absurd (omega arith)

  -- rule 29
  bit_told : (i : ℕ) → i < length list → Verdict R 29 i (Affine (get_or list i 0)) (bit_fault (get_or list i 0))
  bit_told i lt = unless (test_affine (get_or list i 0), affine_passes (get_or list i 0)) (ListRule.list_mpidr i lt)

  bit_broken : {m q : ℕ} → R m q → list_stage m ≡ list_stage 29 → (m ≡ 29) × (q < length list) × (Affine (get_or list q 0) → ⊥)
  bit_broken (ListRule.list_length_empty z) e = absurd (omega arith)
  bit_broken (ListRule.list_length_many gt) e = absurd (omega arith)
  bit_broken (ListRule.list_mpidr i lt outside) e = (refl, lt, outside)

  list_staged : {n p : ℕ} → R n p → list_stage n < list_stage 30
  list_staged (ListRule.list_length_empty z) = omega arith
  list_staged (ListRule.list_length_many gt) = omega arith
  list_staged (ListRule.list_mpidr i lt outside) = omega arith

  list_tells : Tells list_stage R (list_stage 28) (list_stage 30) (list_fault list)
  unfolding list_fault first_outside
  list_tells =
      then_tells list_stage R (omega arith) (omega arith)
      (once_tells list_stage R 28 (omega arith) (λ m q. size_broken) size_told) λ _.
      stage_tells list_stage R (list_stage 29) (length list) (λ i. bit_fault (get_or list i 0))
      (number_stage list_stage R 29 (omega arith) (λ i. Affine (get_or list i 0)) (λ m q. bit_broken) (λ q lt _. bit_told q lt))

  -- the hash
  hash_demands : HashDemands list (hash_answer list)
  unfolding hash_answer
  hash_demands = go (eqb (list_fault list).number 0) refl
    where
      go : (t : Bool) → eqb (list_fault list).number 0 ≡ t → HashDemands list (hash_answer list)
      go true e =
          let z = eqb-true (list_fault list).number 0 e in
          rw e
          (record {
            refused = λ ne. absurd (ne refl);
            sound = λ _. record { none = tells_none (λ n p. list_staged) list_tells z; place = refl; hash = hash_is list (fault_affine list z) };
          })
      go false e =
          rw e
          (record {
            refused = λ ne. record { first = tells_first (λ n p. list_staged) list_tells ne; hash = refl };
            sound = λ z. absurd (eqb-false (list_fault list).number 0 e z);
          })

  pub hash_meets : {r : ListHash} → r ≡ hash_answer list → (r ≡ hash_answer list) × HashDemands list r
  hash_meets e = (e, subst (HashDemands list) (sym e) hash_demands)

  -- the slot of one MPIDR: rule 30 behind those of the list
  module _ (mpidr : ℕ) where
    slot_demands : SlotDemands list mpidr (slot_answer mpidr list)
    unfolding slot_answer
    slot_demands =
        let t = asked list_stage (λ n p. list_staged) list_tells list mpidr (slot_in list mpidr) in
        record {
          refused = λ ne. let r = t.0 ne in record { first = r.0; slot = r.1 };
          sound = λ z.
              let a = t.1 z in
              record { none = a.4; place = a.2; hash = hash_of list; is_hash = hash_is list (fault_affine list a.0); slot = a.3 };
        }

    pub slot_meets : {r : ListSlot} → r ≡ slot_answer mpidr list → (r ≡ slot_answer mpidr list) × SlotDemands list mpidr r
    slot_meets e = (e, subst (SlotDemands list mpidr) (sym e) slot_demands)
