-- SPDX-License-Identifier: BSD-2-Clause OR GPL-2.0-or-later
-- The facts leave one answer: two that both meet the demands are equal. Assumes nothing.
use mathlib.Core.Path.{◌≡◌, sym, ap, ap₂, ◌∙◌}
use mathlib.Core.Logic.{⊎_elim}
use mathlib.Core.List.{List}
use Prim.Native.Nat.{ℕ, ◌≤◌, ◌<◌}
use native.Mathlib.Omega.{arith}
use lib.ListN.{length, get_or}
use lib.Seq.{get_or-take, ext_get_or, length-take-le}
use Rattle.laws.specs.facts.Told.{Fault}
use Rattle.laws.proofs.SearchLaws.{lt_or_le}
use Rattle.laws.proofs.DecideLaws.{decided, eq_decides}
use Rattle.laws.proofs.FirstLaws.{first_unique}
use Rattle.affinity.specs.facts.Told.{ListSlot}
use Rattle.affinity.specs.facts.List.{ListRule, SlotRule, list_stage}
use Rattle.plan.specs.facts.Told.{Plan}
use Rattle.plan.specs.facts.Rules.{PlanRule, PlanSlotRule, plan_stage, PlanDemands, PlanSlotAccepted, PlanSlotDemands}
use Rattle.plan.specs.facts.Planner.{positions_of, MakeAccepted, MakeDemands}
use Rattle.plan.proofs.CheckMeans.{plan_none}
use Rattle.plan.proofs.SlotLaws.{slot_one}
use Rattle.plan.proofs.MinimalLaws.{thinned_unique}

-- both refused, both accepted, or a contradiction
by_number :
    {A : Type 0} (m n : ℕ) →
    ((m ≡ 0 → ⊥) → (n ≡ 0 → ⊥) → A) →
    (m ≡ 0 → n ≡ 0 → A) →
    ((m ≡ 0 → ⊥) → n ≡ 0 → ⊥) →
    (m ≡ 0 → (n ≡ 0 → ⊥) → ⊥) →
    A
by_number m n refused sound left right =
    ⊎_elim
    (λ a. ⊎_elim (λ b. sound a b) (λ b. absurd (right a b)) (decided (eq_decides n 0)))
    (λ a. ⊎_elim (λ b. absurd (left a b)) (λ b. refused a b) (decided (eq_decides n 0)))
    (decided (eq_decides m 0))

module _ (list positions : List ℕ) where
  abbrev fault : ℕ → ℕ → ℕ → Fault
  fault number place second = record { number = number; place = place; second = second }

  pub check_unique : (a b : Fault) → PlanDemands list positions a → PlanDemands list positions b → a ≡ b
  check_unique a b h g =
      let t =
      by_number {A = (a.number ≡ b.number) × (a.place ≡ b.place)} a.number b.number
      (λ x y. first_unique plan_stage (PlanRule list positions) _ _ _ _ (h.refused x) (g.refused y))
      (λ x y. (x ∙ sym y, h.place x ∙ sym (g.place y)))
      (λ x y. plan_none list positions (g.exactly.0 y) (h.refused x).broken)
      (λ x y. plan_none list positions (h.exactly.0 x) (g.refused y).broken) in
      ap₂ (λ (n p : ℕ). fault n p a.second) t.0 t.1 ∙ ap (fault b.number b.place) (h.second ∙ sym g.second)

  module _ (mpidr : ℕ) where
    abbrev slot : ℕ → ℕ → ℕ → ListSlot
    slot number place s = record { number = number; place = place; slot = s }

    accepted_none : {r : ListSlot} → PlanSlotAccepted list positions mpidr r → {n p : ℕ} → PlanSlotRule list positions mpidr n p → ⊥
    accepted_none h (SlotRule.earlier r) = plan_none list positions h.plan r
    accepted_none h (SlotRule.list_unknown out) = out h.listed

    pub plan_slot_unique : (a b : ListSlot) → PlanSlotDemands list positions mpidr a → PlanSlotDemands list positions mpidr b → a ≡ b
    plan_slot_unique a b h g =
        let t =
        by_number {A = (a.number ≡ b.number) × (a.place ≡ b.place) × (a.slot ≡ b.slot)} a.number b.number
        (λ x y.
        let p = h.refused x in
        let q = g.refused y in
        let same = first_unique plan_stage (PlanSlotRule list positions mpidr) _ _ _ _ p.first q.first in
        (same.0, same.1, p.slot ∙ sym q.slot))
        (λ x y.
        let p = h.sound x in
        let q = g.sound y in
        (x ∙ sym y, p.place ∙ sym q.place, slot_one p.slot q.slot))
        (λ x y. accepted_none (g.sound y) (h.refused x).first.broken)
        (λ x y. accepted_none (h.sound x) (g.refused y).first.broken) in
        ap₂ (λ (n p : ℕ). slot n p a.slot) t.0 t.1 ∙ ap (slot b.number b.place) t.2

module _ (list : List ℕ) where
  abbrev plan : ℕ → ℕ → ℕ → List ℕ → Plan
  plan number place count positions = record { number = number; place = place; count = count; positions = positions }

  abbrev Same : Plan → Plan → Type 0
  Same a b = (a.number ≡ b.number) × (a.place ≡ b.place) × (a.count ≡ b.count) × (a.positions ≡ b.positions)

  -- the array is its first positions and the zeros behind them
  same_array :
      (a b : Plan) →
      MakeDemands list a →
      MakeDemands list b →
      a.count ≡ b.count →
      ((i : ℕ) → i < a.count → get_or a.positions i 0 ≡ get_or b.positions i 0) →
      a.positions ≡ b.positions
  same_array a b h g e front =
      ext_get_or 0 a.positions b.positions (h.size ∙ sym g.size)
      (λ i _. ⊎_elim (front i) (λ le. h.rest i le ∙ sym (g.rest i (omega arith))) (lt_or_le i a.count))

  pub make_unique : (a b : Plan) → MakeDemands list a → MakeDemands list b → a ≡ b
  make_unique a b h g =
      let t =
      by_number {A = Same a b} a.number b.number
      refused sound
      (λ x y. (g.sound y).accepted.listed a.number a.place (h.refused x).first.broken)
      (λ x y. (h.sound x).accepted.listed b.number b.place (g.refused y).first.broken) in
      ap₂ (λ (n p : ℕ). plan n p a.count a.positions) t.0 t.1
      ∙ ap₂ (λ (c : ℕ) (l : List ℕ). plan b.number b.place c l) t.2 t.3
    where
      refused : (a.number ≡ 0 → ⊥) → (b.number ≡ 0 → ⊥) → Same a b
      refused x y =
          let p = h.refused x in
          let q = g.refused y in
          let same = first_unique list_stage (ListRule list) _ _ _ _ p.first q.first in
          let count = p.count ∙ sym q.count in
          (same.0, same.1, count, same_array a b h g count (λ i lt. absurd (omega (arith, p.count))))

      sound : a.number ≡ 0 → b.number ≡ 0 → Same a b
      sound x y = (x ∙ sym y, p.place ∙ sym q.place, count, same_array a b h g count front)
        where
          p : MakeAccepted list a
          p = h.sound x

          q : MakeAccepted list b
          q = g.sound y

          same : positions_of a ≡ positions_of b
          same = thinned_unique list (positions_of a) (positions_of b) p.thinned q.thinned

          long : (r : Plan) → r.count ≤ 32 → length r.positions ≡ 32 → length (positions_of r) ≡ r.count
          long r le size = length-take-le r.count r.positions (omega arith)

          count : a.count ≡ b.count
          count = sym (long a p.room h.size) ∙ ap length same ∙ long b q.room g.size

          front : (i : ℕ) → i < a.count → get_or a.positions i 0 ≡ get_or b.positions i 0
          front i lt =
              sym (get_or-take a.count a.positions i 0 lt)
              ∙ ap (λ (l : List ℕ). get_or l i 0) same
              ∙ get_or-take b.count b.positions i 0 (rw count at lt)
