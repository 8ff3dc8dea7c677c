-- SPDX-License-Identifier: BSD-2-Clause OR GPL-2.0-or-later
-- Every place that is told is at most 256, and a plan has at most 32 positions. Assumes nothing.
use mathlib.Core.Path.{◌≡◌, refl}
use mathlib.Core.Bool.{Bool, true, false}
use mathlib.Core.List.{List}
use mathlib.Core.Logic.{⊎_elim}
use Prim.Native.Nat.{ℕ, ◌≤◌}
use native.Mathlib.Omega.{arith}
use lib.Dec.{eqb, lit≤}
use Rattle.laws.specs.answers.Search.{is_among}
use Rattle.laws.proofs.DecideLaws.{decided, eq_decides}
use Rattle.laws.proofs.RuleStageLaws.{told_place}
use Rattle.affinity.specs.answers.List.{list_fault}
use Rattle.affinity.proofs.AskedLaws.{asked_place}
use Rattle.affinity.proofs.ListLaws.{fault_place_le}
use Rattle.plan.specs.answers.Check.{plan_number, plan_fault}
use Rattle.plan.specs.answers.Slot.{slot_under, plan_slot}
use Rattle.plan.specs.answers.Planner.{plan_answer}
use Rattle.plan.proofs.PlannerMeans.{make_demands}

module _ (list : List ℕ) where
  pub make_place_le : (plan_answer list).place ≤ 256
  unfolding plan_answer
  make_place_le = go (eqb (list_fault list).number 0) refl
    where
      go : (t : Bool) → eqb (list_fault list).number 0 ≡ t → (plan_answer list).place ≤ 256
      go true e = rw e (lit≤ tt)
      go false e = rw e (fault_place_le list)

  pub make_count_le : (plan_answer list).count ≤ 32
  make_count_le =
      let h = make_demands list in
      ⊎_elim (λ z. (h.sound z).room) (λ ne. omega (arith, (h.refused ne).count)) (decided (eq_decides (plan_answer list).number 0))

  module _ (positions : List ℕ) where
    pub check_place_le : (plan_fault list positions).place ≤ 256
    unfolding plan_fault
    check_place_le = go (eqb (list_fault list).number 0) refl
      where
        go : (t : Bool) → eqb (list_fault list).number 0 ≡ t → (plan_fault list positions).place ≤ 256
        go true e = rw e (omega (arith, told_place (plan_number list positions) 0))
        go false e = rw e (fault_place_le list)

    pub slot_place_le : (mpidr : ℕ) → (plan_slot mpidr list positions).place ≤ 256
    unfolding plan_slot
    slot_place_le mpidr = asked_place (plan_fault list positions) (is_among list mpidr) (slot_under positions mpidr) check_place_le
