-- SPDX-License-Identifier: BSD-2-Clause OR GPL-2.0-or-later
-- What `affinity` tells of a list, in the order of a plan's rules, and its two ways out. Assumes nothing.
use mathlib.Core.Path.{◌≡◌, refl, sym, ap, ◌∙◌}
use mathlib.Core.List.{List}
use Prim.Native.Nat.{ℕ, ◌<◌}
use native.Mathlib.Omega.{arith}
use lib.ListN.{length, get_or}
use borrow.Author.Tests.{eq-eqb, ne_eqb, eqb-true, eqb-false}
use Rattle.laws.specs.facts.First.{Before, First}
use Rattle.laws.specs.answers.Fault.{clear, told}
use Rattle.laws.proofs.FaultLaws.{or_second}
use Rattle.laws.proofs.OrElseLaws.{or_clear}
use Rattle.laws.proofs.RuleStageLaws.{first_clears}
use Rattle.laws.proofs.SecondPlaceLaws.{Plain, told_plain, else_plain, first_plain}
use Rattle.laws.proofs.FirstLaws.{Tells}
use Rattle.affinity.specs.facts.Told.{ListMask}
use Rattle.affinity.specs.facts.List.{ListRule, list_stage}
use Rattle.affinity.specs.answers.Mask.{mask_of}
use Rattle.affinity.specs.answers.List.{length_fault, bit_fault, first_outside, list_fault, mask_answer, hash_answer}
use Rattle.affinity.proofs.ListLaws.{mask_refused, mask_accepted}
use Rattle.affinity.proofs.ListMeans.{hash_meets}
use Rattle.plan.specs.facts.Rules.{plan_stage}

module _ (list : List ℕ) where
  abbrev R : ℕ → ℕ → Type 0
  R = ListRule list

  abbrev fault : ℕ
  fault = (list_fault list).number

  -- the answer of `list_mask`, told by its number
  pub list_refused :
      (a : ListMask) →
      a ≡ mask_answer list →
      (a.number ≡ 0 → ⊥) →
      (fault ≡ 0 → ⊥) × (a.number ≡ fault) × (a.place ≡ (list_fault list).place)
  list_refused a e ne =
      let r = mask_refused list a e ne in
      (eqb-false fault 0 r.0, ap (λ (x : ListMask). x.number) r.1, ap (λ (x : ListMask). x.place) r.1)

  pub list_accepted : (a : ListMask) → a ≡ mask_answer list → a.number ≡ 0 → (fault ≡ 0) × (a.mask ≡ mask_of list)
  list_accepted a e z = let r = mask_accepted list a e z in (eqb-true fault 0 r.0, r.1)

  -- the demands on the hash, said of the fault
  pub fault_first : (fault ≡ 0 → ⊥) → First list_stage R fault (list_fault list).place
  unfolding hash_answer
  fault_first ne = ((rw (ne_eqb fault 0 ne) at (hash_meets list refl).1.refused) ne).first

  pub fault_none : fault ≡ 0 → (n p : ℕ) → R n p → ⊥
  unfolding hash_answer
  fault_none z = ((rw (eq-eqb fault 0 z) at (hash_meets list refl).1.sound) refl).none

  fault_clear : fault ≡ 0 → list_fault list ≡ clear
  unfolding list_fault first_outside
  fault_clear z =
      let t = or_clear (told (length_fault (length list)) 0) (first_outside list) z in
      or_second (told (length_fault (length list)) 0) (first_outside list) t.0
      ∙ first_clears (λ i. bit_fault (get_or list i 0)) (length list) t.1

  pub fault_plain : Plain (list_fault list)
  unfolding list_fault first_outside
  fault_plain =
      else_plain (told (length_fault (length list)) 0) (first_outside list) (told_plain (length_fault (length list)) 0)
      (first_plain (λ i. bit_fault (get_or list i 0)) (length list))

  -- 28 and 29 come first in the order of a plan's rules as well
  same_stage : {n p : ℕ} → R n p → plan_stage n ≡ list_stage n
  same_stage (ListRule.list_length_empty z) = refl
  same_stage (ListRule.list_length_many gt) = refl
  same_stage (ListRule.list_mpidr i lt outside) = refl

  pub list_staged : {n p : ℕ} → R n p → plan_stage n < plan_stage 40
  list_staged (ListRule.list_length_empty z) = omega arith
  list_staged (ListRule.list_length_many gt) = omega arith
  list_staged (ListRule.list_mpidr i lt outside) = omega arith

  restaged : {m q n p : ℕ} → R m q → R n p → Before plan_stage m q n p → Before list_stage m q n p
  restaged r s (Before.earlier_stage l) = Before.earlier_stage (rw (same_stage r, same_stage s) at l)
  restaged r s (Before.lower_place e l) = Before.lower_place (sym (same_stage r) ∙ e ∙ same_stage s) l
  restaged r s (Before.smaller_number e q l) = Before.smaller_number (sym (same_stage r) ∙ e ∙ same_stage s) q l

  pub list_tells : Tells plan_stage R (plan_stage 28) (plan_stage 40) (list_fault list)
  list_tells =
      record {
        told = λ ne.
            let f = fault_first ne in
            record {
              broken = (f.broken, omega arith, list_staged f.broken);
              none_before = λ m q r b. f.none_before m q r.0 (restaged r.0 f.broken b);
            };
        none = λ z. (fault_clear z, λ n p r. fault_none z n p r.0);
      }
