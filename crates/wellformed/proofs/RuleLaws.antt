-- SPDX-License-Identifier: BSD-2-Clause OR GPL-2.0-or-later
-- The check of rules 1 to 8 tells the first of them that is broken. Assumes nothing.
use mathlib.Core.Path.{◌≡◌, refl, sym, subst, ◌∙◌}
use mathlib.Core.Logic.{⊎_elim}
use mathlib.Core.List.{List, [], ◌∷◌}
use Prim.Native.Nat.{ℕ, zero, suc, ◌≤◌, ◌<◌}
use native.Mathlib.Nat.{le_refl}
use native.Mathlib.Omega.{arith}
use lib.ListN.{length, get_or, get_or-eq_default}
use Rattle.laws.specs.facts.Told.{Fault}
use Rattle.laws.specs.answers.Fault.{told, first_fault}
use Rattle.laws.proofs.SearchLaws.{lt_or_le}
use Rattle.laws.proofs.FaultLaws.{place_le}
use Rattle.laws.proofs.FirstLaws.{NoneIn, Tells, stage_tells}
use Rattle.laws.proofs.OrElseLaws.{told_number}
use Rattle.laws.proofs.RuleStageLaws.{told_place, else_place, then_tells}
use Rattle.laws.proofs.VerdictLaws.{Verdict}
use Rattle.laws.specs.facts.Limits.{max_properties}
use Rattle.tables.specs.facts.Board.{Board, node_count, prop_count}
use Rattle.wellformed.specs.facts.Order.{stage}
use Rattle.wellformed.specs.facts.Rules.{TableRule, WellFormed}
use Rattle.records.specs.answers.Check.{node_fault, property_fault}
use Rattle.wellformed.specs.answers.Check.{width_fault, node_words_fault, prop_words_fault, pool_fault, table_fault}
use Rattle.wellformed.proofs.SoundLaws.{Verdicts, width_told, nodes_told, props_told, pool_told, node_told, property_told}

-- a rule that is broken at a place is told there, or one of its stage with a smaller number
abbrev Seen : ℕ → ℕ → Type 0
Seen m v = (v ≡ 0 → ⊥) × (v ≤ m)

-- what is told is broken, and of the stage
abbrev Broken : Board → ℕ → ℕ → ℕ → Type 0
Broken b s q v = (v ≡ 0 → ⊥) → TableRule b v q × (stage v ≡ s)

-- what a verdict shows: of a rule that is broken, of a number that is told, and of one that is not
module _ {b : Board} {q : ℕ} where
  seen : {n v : ℕ} {P : Type 0} → 1 ≤ n → (P → ⊥) → Verdict (TableRule b) n q P v → Seen n v
  seen l none (Verdict.sound p) = absurd (none p)
  seen l none (Verdict.broken r) = (λ z. omega arith, le_refl _)

  seen_first : {m n v : ℕ} {P Q : Type 0} → 1 ≤ m → (P → ⊥) → Verdicts b m n q P Q v → Seen m v
  seen_first l none (Verdicts.first r) = (λ z. omega arith, le_refl _)
  seen_first l none (Verdicts.second p s) = absurd (none p)

  seen_second : {m n v : ℕ} {P Q : Type 0} → 1 ≤ m → m ≤ n → (Q → ⊥) → Verdicts b m n q P Q v → Seen n v
  seen_second l le none (Verdicts.first r) = (λ z. omega arith, le)
  seen_second l le none (Verdicts.second p s) = seen (omega arith) none s

  sound_of : {n v : ℕ} {P : Type 0} → 1 ≤ n → Verdict (TableRule b) n q P v → v ≡ 0 → P
  sound_of l (Verdict.sound p) z = p
  sound_of l (Verdict.broken r) z = absurd (omega arith)

  told_broken : {n v : ℕ} {P : Type 0} → Verdict (TableRule b) n q P v → Broken b (stage n) q v
  told_broken (Verdict.sound p) = λ ne. absurd (ne refl)
  told_broken (Verdict.broken r) = λ ne. (r, refl)

  told_breaks : {m n v : ℕ} {P Q : Type 0} → stage m ≡ stage n → Verdicts b m n q P Q v → Broken b (stage n) q v
  told_breaks e (Verdicts.first r) = λ ne. (r, e)
  told_breaks e (Verdicts.second p s) = told_broken s

module _ (b : Board) where
  -- how many places each of their stages has, and the number told at each
  abbrev places : List ℕ
  places = 1 ∷ 1 ∷ 1 ∷ 1 ∷ node_count b.nodes ∷ prop_count b.props ∷ []

  abbrev places_of : ℕ → ℕ
  places_of s = get_or places s 0

  abbrev fault_of : ℕ → ℕ → ℕ
  fault_of s q =
      get_or
      (width_fault b.width
      ∷ node_words_fault (length b.nodes)
      ∷ prop_words_fault (length b.props)
      ∷ pool_fault (length b.pool)
      ∷ node_fault b.nodes (length b.pool) q
      ∷ property_fault (node_count b.nodes) b.props b.pool q
      ∷ [])
      s
      0

  abbrev once : ℕ → Fault
  once s = told (fault_of s 0) 0

  abbrev each : ℕ → Fault
  each s = first_fault (fault_of s) (places_of s)

  -- every broken rule is seen at its place
  all_seen : {m q : ℕ} → TableRule b m q → (q < places_of (stage m)) × Seen m (fault_of (stage m) q)
  all_seen (TableRule.board_width none) = (omega arith, seen (omega arith) none (width_told b))
  all_seen (TableRule.node_table_part n) = (omega arith, seen (omega arith) (λ t. n (omega (arith, t.2))) (nodes_told b))
  all_seen (TableRule.node_table_empty e) = (omega arith, seen (omega arith) (λ t. omega (arith, t.0)) (nodes_told b))
  all_seen (TableRule.node_table_many l) = (omega arith, seen (omega arith) (λ t. omega (arith, t.1)) (nodes_told b))
  all_seen (TableRule.property_table_part n) = (omega arith, seen (omega arith) (λ t. n (omega (arith, t.1))) (props_told b))
  all_seen (TableRule.property_table_many l) = (omega arith, seen (omega arith) (λ t. omega (arith, t.0)) (props_told b))
  all_seen (TableRule.pool_size l) = (omega arith, seen (omega arith) (λ t. omega arith) (pool_told b))
  all_seen (TableRule.node_name_length i lt h) = (lt, seen_first (omega arith) (λ t. ⊎_elim (λ e. omega arith) (λ l. omega arith) h) (node_told b i lt))
  all_seen (TableRule.node_name_range i lt h) = (lt, seen_first (omega arith) (λ t. h t.inside) (node_told b i lt))
  all_seen (TableRule.node_parent_root lt h) = (lt, seen_second (omega arith) (omega arith) h (node_told b 0 lt))
  all_seen (TableRule.node_parent_order i lt h g) = (lt, seen_second (omega arith) (omega arith) (⊎_elim h g) (node_told b (suc i) lt))
  all_seen (TableRule.property_node k lt l) = (lt, seen_first (omega arith) (λ t. omega arith) (property_told b k lt))
  all_seen (TableRule.property_name_length k lt h) =
      (lt, seen_first (omega arith) (λ t. ⊎_elim (λ e. omega arith) (λ l. omega arith) h) (property_told b k lt))
  all_seen (TableRule.property_name_range k lt h) = (lt, seen_first (omega arith) (λ t. h t.name.inside) (property_told b k lt))
  all_seen (TableRule.property_value_range k lt h) = (lt, seen_first (omega arith) (λ t. h t.value) (property_told b k lt))
  all_seen (TableRule.duplicate_property j k l lt e n) = (lt, seen_second (omega arith) (omega arith) (λ t. t j l e n) (property_told b k lt))

  -- the rules of the tables are those of the stages before that of rule 9
  pub rule_staged : {m q : ℕ} → TableRule b m q → stage m < stage 9
  rule_staged {m} {q} r = ⊎_elim (λ l. l) (λ l. absurd (late (stage m) l (all_seen r).0)) (lt_or_le (stage m) (stage 9))
    where
      late : (s : ℕ) → stage 9 ≤ s → q < places_of s → ⊥
      late s l lt = omega (arith, get_or-eq_default places 0 l)

  the_stage : (s : ℕ) → ((q : ℕ) → q < places_of s → Broken b s q (fault_of s q)) → Tells stage (TableRule b) s (suc s) (each s)
  the_stage s h =
      stage_tells stage (TableRule b) s (places_of s) (fault_of s)
      (record { inside = λ m q r e. (at r e).0; smallest = λ q lt _. record { sound = h q lt; least = λ m r e. (at r e).1 } })
    where
      at : {m q : ℕ} → TableRule b m q → stage m ≡ s → (q < places_of s) × Seen m (fault_of s q)
      at {m} {q} r e = subst (λ (x : ℕ). (q < places_of x) × Seen m (fault_of x q)) e (all_seen r)

  -- a stage of one place
  at_start : {n v : ℕ} {P : Type 0} → Verdict (TableRule b) n 0 P v → (q : ℕ) → q < 1 → Broken b (stage n) q v
  at_start t zero lt = told_broken t
  at_start t (suc q) lt = absurd (omega arith)

  pub table_tells : Tells stage (TableRule b) 0 (stage 9) (table_fault b)
  unfolding table_fault first_fault
  table_tells =
      then_tells stage (TableRule b) (omega arith) (omega arith) (the_stage 0 (at_start (width_told b))) λ _.
      then_tells stage (TableRule b) (omega arith) (omega arith) (the_stage 1 (at_start (nodes_told b))) λ _.
      then_tells stage (TableRule b) (omega arith) (omega arith) (the_stage 2 (at_start (props_told b))) λ _.
      then_tells stage (TableRule b) (omega arith) (omega arith) (the_stage 3 (at_start (pool_told b))) λ _.
      then_tells stage (TableRule b) (omega arith) (omega arith) (the_stage 4 (λ q lt. told_breaks refl (node_told b q lt))) λ _.
      the_stage 5 (λ q lt. told_breaks refl (property_told b q lt))

  -- where nothing is told the tables are well-formed
  pub tables_kept : NoneIn stage (TableRule b) 0 (stage 9) → WellFormed b
  tables_kept none n p r = none n p (r, omega arith, rule_staged r)

  pub table_sound : (table_fault b).number ≡ 0 → WellFormed b
  table_sound z = tables_kept (table_tells.none z).1

  -- a place that is told is at most the greatest count of records
  pub table_place : (table_fault b).place ≤ max_properties
  unfolding table_fault
  table_place =
      else_place (once 0) _ (start 0) λ _.
      else_place (once 1) _ (start 1) λ z.
      else_place (once 2) _ (start 2) λ y.
      else_place (once 3) _ (start 3) λ _.
      else_place (each 4) _ (records 4 (nodes z)) λ _. records 5 (props y)
    where
      start : (s : ℕ) → (once s).place ≤ max_properties
      start s = omega (arith, told_place (fault_of s 0) 0)

      records : (s : ℕ) → places_of s ≤ max_properties → (each s).place ≤ max_properties
      records s le = omega (arith, place_le (fault_of s) (places_of s))

      nodes : (once 1).number ≡ 0 → node_count b.nodes ≤ max_properties
      nodes z = omega (arith, (sound_of (omega arith) (nodes_told b) (sym (told_number (fault_of 1 0) 0) ∙ z)).1)

      props : (once 2).number ≡ 0 → prop_count b.props ≤ max_properties
      props z = (sound_of (omega arith) (props_told b) (sym (told_number (fault_of 2 0) 0) ∙ z)).0
