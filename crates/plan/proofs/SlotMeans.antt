-- SPDX-License-Identifier: BSD-2-Clause OR GPL-2.0-or-later
-- The slot asked under a plan: the first of rules 28, 29, 40 and 30 that is broken is told, and else the slot. Assumes nothing.
use mathlib.Core.Path.{◌≡◌, sym, subst}
use mathlib.Core.List.{List}
use Prim.Native.Nat.{ℕ}
use Rattle.affinity.specs.facts.Told.{ListSlot}
use Rattle.affinity.proofs.AskedLaws.{asked}
use Rattle.plan.specs.facts.Plan.{PlanSlot}
use Rattle.plan.specs.facts.Rules.{plan_stage, PlanSlotDemands}
use Rattle.plan.specs.answers.Slot.{slot_under, plan_slot}
use Rattle.plan.proofs.SlotLaws.{slot_is, slots_distinct}
use Rattle.plan.proofs.CheckMeans.{plan_staged, plan_tells, plan_sound}

module _ (list positions : List ℕ) (mpidr : ℕ) where
  pub slot_demands : PlanSlotDemands list positions mpidr (plan_slot mpidr list positions)
  unfolding plan_slot
  slot_demands =
      let t = asked plan_stage (λ n p. plan_staged list positions) (plan_tells list positions) list mpidr (slot_under positions mpidr) in
      record {
        refused = λ ne. let r = t.0 ne in record { first = r.0; slot = r.1 };
        sound = λ z.
            let a = t.1 z in
            let plan = plan_sound list positions a.0 in
            let is = subst (PlanSlot positions mpidr) (sym a.3) (slot_is positions mpidr) in
            record { plan = plan; listed = a.1; place = a.2; slot = is; distinct = λ other m h. slots_distinct plan.separates m a.1 h is };
      }

  pub slot_meets :
      {r : ListSlot} → r ≡ plan_slot mpidr list positions → (r ≡ plan_slot mpidr list positions) × PlanSlotDemands list positions mpidr r
  slot_meets e = (e, subst (PlanSlotDemands list positions mpidr) (sym e) slot_demands)
