-- SPDX-License-Identifier: BSD-2-Clause OR GPL-2.0-or-later
-- Our planner's answer meets what is demanded of it. Assumes nothing.
use mathlib.Core.Path.{◌≡◌, refl, sym, ap, subst, ◌∙◌}
use mathlib.Core.Bool.{Bool, true, false}
use mathlib.Core.List.{List, ◌++◌}
use Prim.Native.Nat.{ℕ, zero, suc, ◌+◌, ◌-◌, ◌≤◌}
use native.Mathlib.Omega.{arith}
use lib.Dec.{eqb}
use lib.ListN.{length, get_or, drop, replicate}
use lib.Seq.{get_or-append-add, get_or-drop}
use borrow.Author.Tests.{eqb-true, eqb-false}
use Rattle.laws.specs.answers.Listed.{laid_over}
use Rattle.laws.proofs.OverLaws.{over_fits, over_front, over_length}
use Rattle.affinity.specs.declared.Hash.{Hash}
use Rattle.affinity.specs.facts.Hash.{IsHash}
use Rattle.affinity.specs.answers.Mask.{mask_of}
use Rattle.affinity.specs.answers.Hash.{hash_of_mask}
use Rattle.affinity.specs.answers.List.{list_fault}
use Rattle.affinity.specs.steps.List.{AllAffine}
use Rattle.affinity.proofs.HashMeans.{hash_is, hash_unique}
use Rattle.affinity.proofs.ListLaws.{fault_affine}
use Rattle.plan.specs.facts.Told.{Plan}
use Rattle.plan.specs.facts.Rules.{IsPlan}
use Rattle.plan.specs.facts.Planner.{positions_of, MakeAccepted, MakeDemands}
use Rattle.plan.specs.answers.Planner.{plan_of, plan_with, plan_answer}
use Rattle.plan.proofs.PositionLaws.{positions_few}
use Rattle.plan.proofs.FewLaws.{ones_few}
use Rattle.plan.proofs.ThinLaws.{differ_mask, mask_affine, plan_positions, plan_separates, plan_thinned}
use Rattle.plan.proofs.MinimalLaws.{thinned_minimal}
use Rattle.plan.proofs.ListLaws.{fault_none, fault_first}

-- 32 zeros
abbrev zeros : List ℕ
zeros = replicate 32 0

zeros_at : (n i : ℕ) → get_or {A = ℕ} (replicate n 0) i 0 ≡ 0
zeros_at zero i = refl
zeros_at (suc n) zero = refl
zeros_at (suc n) (suc i) = zeros_at n i

-- behind a list that is laid over them
behind : (l : List ℕ) → length l ≤ 32 → (i : ℕ) → length l ≤ i → get_or (laid_over l zeros) i 0 ≡ 0
behind l room i le =
    let e : i ≡ length l + (i - length l) = omega arith in
    ap (λ (s : List ℕ). get_or s i 0) (over_fits l zeros room)
    ∙ ap (λ (k : ℕ). get_or (l ++ drop (length l) zeros) k 0) e
    ∙ get_or-append-add l (drop (length l) zeros) (i - length l) 0
    ∙ get_or-drop (length l) zeros (i - length l) 0
    ∙ zeros_at 32 (length l + (i - length l))

module _ (list : List ℕ) where
  abbrev l : List ℕ
  l = plan_of list

  module _ (sound : (list_fault list).number ≡ 0) where
    affine : AllAffine list
    affine = fault_affine list sound

    room : length l ≤ 32
    room = positions_few l (plan_positions list affine)

    accepted : IsPlan list l
    accepted = record { listed = fault_none list sound; sound = plan_positions list affine; separates = plan_separates list affine }

    few : (h : Hash) → IsHash list h → length l ≤ h.bits
    unfolding hash_of_mask
    few h is =
        let thin = plan_thinned list affine in
        rw (ap (λ (x : Hash). x.bits) (hash_unique (hash_is list affine) is)) at
        (ones_few (mask_of list) (mask_affine list affine) l thin.rising
        (λ i lt. differ_mask list affine (get_or l i 0) (thin.only i lt).in_mask))

    make_accepted : MakeAccepted list (plan_with l)
    make_accepted =
        let same : positions_of (plan_with l) ≡ l = over_front l zeros room in
        let thin = plan_thinned list affine in
        record {
          place = refl;
          accepted = rw same accepted;
          thinned = rw same thin;
          few = few;
          minimal = λ i lt s. thinned_minimal list l thin i lt (rw same at s);
          room = room;
        }

  pub make_demands : MakeDemands list (plan_answer list)
  unfolding plan_answer
  make_demands = go (eqb (list_fault list).number 0) refl
    where
      go : (t : Bool) → eqb (list_fault list).number 0 ≡ t → MakeDemands list (plan_answer list)
      go true e =
          let z = eqb-true (list_fault list).number 0 e in
          rw e
          (record {
            refused = λ ne. absurd (ne refl);
            sound = λ _. make_accepted z;
            size = over_length l zeros;
            rest = behind l (room z);
          })
      go false e =
          rw e
          (record {
            refused = λ ne. record { first = fault_first list ne; count = refl };
            sound = λ z. absurd (eqb-false (list_fault list).number 0 e z);
            size = refl;
            rest = λ i _. zeros_at 32 i;
          })

  pub make_meets : {r : Plan} → r ≡ plan_answer list → (r ≡ plan_answer list) × MakeDemands list r
  make_meets e = (e, subst (MakeDemands list) (sym e) make_demands)
