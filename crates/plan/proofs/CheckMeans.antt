-- SPDX-License-Identifier: BSD-2-Clause OR GPL-2.0-or-later
-- A check tells the first of rules 28, 29 and 40 that is broken. Assumes nothing.
use mathlib.Core.Path.{◌≡◌, refl, sym, ap, ap₂, subst, ◌∙◌}
use mathlib.Core.Bool.{Bool, true, false, cond}
use mathlib.Core.List.{List}
use mathlib.Core.Logic.{⊎_elim}
use Prim.Native.Nat.{ℕ, zero, suc, ◌<◌}
use native.Mathlib.Omega.{arith}
use Rattle.std.specs.Prelude.{Ok, Err}
use Rattle.laws.specs.declared.rules.Broken.{Broken}
use Rattle.laws.specs.facts.Told.{Fault}
use Rattle.laws.specs.answers.Told.{broken_in}
use Rattle.laws.proofs.ToldLaws.{rule_counts}
use Rattle.affinity.specs.answers.Told.{mask_told}
use Rattle.laws.specs.answers.Fault.{plain, told}
use Rattle.laws.proofs.SearchLaws.{true_false}
use Rattle.laws.proofs.DecideLaws.{decided, eq_decides}
use Rattle.laws.proofs.FaultLaws.{or_first, or_second}
use Rattle.laws.proofs.FirstLaws.{Tells}
use Rattle.laws.proofs.RuleStageLaws.{Split, split_tells, tells_as, tells_first, tells_none}
use Rattle.laws.proofs.SecondPlaceLaws.{told_plain, else_plain}
use Rattle.laws.proofs.VerdictLaws.{Verdict, held, once_tells}
use Rattle.affinity.specs.facts.List.{ListRule}
use Rattle.affinity.specs.answers.List.{list_fault, mask_answer}
use Rattle.plan.specs.facts.Plan.{Positions, SeparatedAt}
use Rattle.plan.specs.facts.Rules.{PlanRule, plan_stage, IsPlan, PlanDemands}
use Rattle.plan.specs.answers.Check.{bad_positions, keep_of, clashes, plan_number, plan_fault}
use Rattle.plan.proofs.SeparateLaws.{clear_separates, separates_clear}
use Rattle.plan.proofs.PositionLaws.{good_sound, sound_good}
use Rattle.plan.proofs.KeepLaws.{keep_separates, separates_keep}
use Rattle.plan.proofs.ListLaws.{list_refused, list_accepted, fault_plain, list_staged, list_tells}

-- a number told of place 0
plain_told : (v : ℕ) → plain v 0 ≡ told v 0
plain_told zero = refl
plain_told (suc v) = refl

module _ (list positions : List ℕ) where
  -- the two ways out of a check, by what is told of the list
  abbrev rest : Fault
  rest = told (plan_number list positions) 0

  pub check_refused : (r : Broken) → mask_told (Err r) ≡ mask_answer list → broken_in {A = ℕ} (Err r) ≡ plan_fault list positions
  unfolding plan_fault
  check_refused r e =
      let t = list_refused list (mask_told (Err r)) e (rule_counts r.rule) in
      ap₂ plain t.1 t.2
      ∙ ap (λ (s : ℕ). record { number = (list_fault list).number; place = (list_fault list).place; second = s }) (sym (fault_plain list))
      ∙ sym (or_first (list_fault list) rest t.0)

  pub check_accepted :
      (mask : ℕ) →
      mask_told (Ok mask) ≡ mask_answer list →
      {v : ℕ} →
      v ≡ plan_number list positions →
      plain v 0 ≡ plan_fault list positions
  unfolding plan_fault
  check_accepted mask e {v} q =
      plain_told v ∙ ap (λ (n : ℕ). told n 0) q ∙ sym (or_second (list_fault list) rest (list_accepted list (mask_told (Ok mask)) e refl).0)

  abbrev R : ℕ → ℕ → Type 0
  R = PlanRule list positions

  abbrev Sound : Type 0
  Sound = Positions positions × SeparatedAt list positions

  -- rule 40
  plan_told : Verdict R 40 0 Sound (plan_number list positions)
  unfolding plan_number
  plan_told = go (bad_positions positions) refl (clashes list (keep_of positions)) refl
    where
      go :
          (s : Bool) →
          bad_positions positions ≡ s →
          (t : Bool) →
          clashes list (keep_of positions) ≡ t →
          Verdict R 40 0 Sound (cond s 40 (cond t 40 0))
      go true e t f = Verdict.broken (PlanRule.plan_positions (λ h. true_false e (sound_good positions h)))
      go false e true f =
          Verdict.broken (PlanRule.plan_separates (λ h.
          true_false f (separates_clear list (keep_of positions) (separates_keep positions list h))))
      go false e false f =
          Verdict.sound (good_sound positions e, keep_separates positions list (clear_separates list (keep_of positions) f))

  plan_broken : {m q : ℕ} → R m q → plan_stage m ≡ plan_stage 40 → (m ≡ 40) × (q ≡ 0) × (Sound → ⊥)
  plan_broken (PlanRule.of_list r) e = absurd (omega (arith, list_staged list r))
  plan_broken (PlanRule.plan_positions bad) e = (refl, refl, λ s. bad s.0)
  plan_broken (PlanRule.plan_separates bad) e = (refl, refl, λ s. bad s.1)

  pub plan_staged : {n p : ℕ} → R n p → plan_stage n < plan_stage 30
  plan_staged (PlanRule.of_list r) = omega (arith, list_staged list r)
  plan_staged (PlanRule.plan_positions bad) = omega arith
  plan_staged (PlanRule.plan_separates bad) = omega arith

  from_parts : {n p : ℕ} → Split plan_stage (plan_stage 40) (ListRule list) R n p → R n p
  from_parts (Split.early r _) = PlanRule.of_list r
  from_parts (Split.late s _) = s

  to_parts : {n p : ℕ} → R n p → Split plan_stage (plan_stage 40) (ListRule list) R n p
  to_parts (PlanRule.of_list r) = Split.early r (list_staged list r)
  to_parts (PlanRule.plan_positions bad) = Split.late (PlanRule.plan_positions bad) (omega arith)
  to_parts (PlanRule.plan_separates bad) = Split.late (PlanRule.plan_separates bad) (omega arith)

  pub plan_tells : Tells plan_stage R (plan_stage 28) (plan_stage 30) (plan_fault list positions)
  unfolding plan_fault
  plan_tells =
      tells_as (λ n p. from_parts) (λ n p. to_parts)
      (split_tells plan_stage (plan_stage 40) (omega arith) (omega arith) (list_tells list) λ _.
      once_tells plan_stage R 40 (omega arith) (λ m q. plan_broken) plan_told)

  -- where no rule is broken the positions are a plan, and the other way round
  none_plan : ((n p : ℕ) → R n p → ⊥) → IsPlan list positions
  none_plan none =
      let h = held plan_told (none 40 0) in
      record { listed = λ n p r. none n p (PlanRule.of_list r); sound = h.0; separates = h.1 }

  pub plan_none : IsPlan list positions → {n p : ℕ} → R n p → ⊥
  plan_none is {n} {p} (PlanRule.of_list r) = is.listed n p r
  plan_none is (PlanRule.plan_positions bad) = bad is.sound
  plan_none is (PlanRule.plan_separates bad) = bad is.separates

  accepted : IsPlan list positions → (plan_fault list positions).number ≡ 0
  accepted is =
      ⊎_elim (λ z. z) (λ ne. absurd (plan_none is (tells_first (λ n p. plan_staged) plan_tells ne).broken))
      (decided (eq_decides (plan_fault list positions).number 0))

  -- a plan that is not refused is one
  pub plan_sound : (plan_fault list positions).number ≡ 0 → IsPlan list positions
  plan_sound z = none_plan (tells_none (λ n p. plan_staged) plan_tells z)

  pub plan_demands : PlanDemands list positions (plan_fault list positions)
  unfolding plan_fault
  plan_demands =
      record {
        exactly = (plan_sound, accepted);
        refused = tells_first (λ n p. plan_staged) plan_tells;
        place = λ z. ap (λ (f : Fault). f.place) (plan_tells.none z).0;
        second = else_plain (list_fault list) rest (fault_plain list) (told_plain (plan_number list positions) 0);
      }

  pub check_meets : {r : Fault} → r ≡ plan_fault list positions → (r ≡ plan_fault list positions) × PlanDemands list positions r
  check_meets e = (e, subst (PlanDemands list positions) (sym e) plan_demands)
