-- SPDX-License-Identifier: BSD-2-Clause OR GPL-2.0-or-later
-- Rules 28, 29, 40 and 30 of a plan, and what is demanded of the answers about it (02, W8).
use Rattle.std.specs.Prelude.{List, [], ◌∷◌, ◌↔◌, ◌≡◌, ℕ}
use Rattle.laws.specs.facts.Told.{Fault}
use Rattle.laws.specs.facts.First.{stage_in, First}
use Rattle.laws.specs.facts.Limits.{no_property}
use Rattle.laws.specs.facts.Listing.{Member}
use Rattle.affinity.specs.facts.Told.{ListSlot}
use Rattle.affinity.specs.facts.List.{ListRule, SlotRule}
use Rattle.plan.specs.facts.Plan.{Positions, SeparatedAt, PlanSlot}

-- rules 28, 29 and 40 of a plan for a list
pub data PlanRule (list positions : List ℕ) : ℕ → ℕ → Type 0 where
  of_list : {n p : ℕ} → ListRule list n p → PlanRule list positions n p
  plan_positions : (Positions positions → ⊥) → PlanRule list positions 40 0
  plan_separates : (SeparatedAt list positions → ⊥) → PlanRule list positions 40 0

-- .. and 30 of one MPIDR asked under it
abbrev pub PlanSlotRule : List ℕ → List ℕ → ℕ → ℕ → ℕ → Type 0
PlanSlotRule list positions mpidr = SlotRule (PlanRule list positions) list mpidr

-- the order: each number a stage of its own
abbrev pub plan_stages : List (List ℕ)
plan_stages = (28 ∷ []) ∷ (29 ∷ []) ∷ (40 ∷ []) ∷ (30 ∷ []) ∷ []

abbrev pub plan_stage : ℕ → ℕ
plan_stage = stage_in plan_stages

-- positions are a plan for a list: the list keeps its rules, the positions rise in the affinity bits, and they separate the list
pub record IsPlan (list positions : List ℕ) : Type 0 where
  pub listed : (n p : ℕ) → ListRule list n p → ⊥
  pub sound : Positions positions
  pub separates : SeparatedAt list positions

-- accepted exactly when the positions are a plan for the list; otherwise the first broken rule is told
pub record PlanDemands (list positions : List ℕ) (r : Fault) : Type 0 where
  pub exactly : (r.number ≡ 0) ↔ IsPlan list positions
  pub refused : (r.number ≡ 0 → ⊥) → First plan_stage (PlanRule list positions) r.number r.place
  pub place : r.number ≡ 0 → r.place ≡ 0
  pub second : r.second ≡ no_property

-- a refusal tells the first broken rule, and no slot
pub record PlanSlotRefused (list positions : List ℕ) (mpidr : ℕ) (r : ListSlot) : Type 0 where
  pub first : First plan_stage (PlanSlotRule list positions mpidr) r.number r.place
  pub slot : r.slot ≡ 0

-- an acceptance: the slot of a listed MPIDR is that under the plan, and no other listed one has it
pub record PlanSlotAccepted (list positions : List ℕ) (mpidr : ℕ) (r : ListSlot) : Type 0 where
  pub plan : IsPlan list positions
  pub listed : Member list mpidr
  pub place : r.place ≡ 0
  pub slot : PlanSlot positions mpidr r.slot
  pub distinct : (other : ℕ) → Member list other → PlanSlot positions other r.slot → other ≡ mpidr

pub record PlanSlotDemands (list positions : List ℕ) (mpidr : ℕ) (r : ListSlot) : Type 0 where
  pub refused : (r.number ≡ 0 → ⊥) → PlanSlotRefused list positions mpidr r
  pub sound : r.number ≡ 0 → PlanSlotAccepted list positions mpidr r
