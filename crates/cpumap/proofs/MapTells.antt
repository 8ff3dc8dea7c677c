-- SPDX-License-Identifier: BSD-2-Clause OR GPL-2.0-or-later
-- The first broken one of rules 15 and 16 is told. Assumes well-formed tables.
use mathlib.Core.Path.{◌≡◌, refl, sym, ◌∙◌}
use mathlib.Core.Bool.{Bool, cond}
use Prim.Native.Nat.{ℕ, ◌≤◌, ◌<◌}
use native.Mathlib.Omega.{arith}
use Rattle.laws.proofs.FirstLaws.{NoneIn, Tells, stage_tells}
use Rattle.laws.proofs.RuleStageLaws.{then_tells}
use Rattle.laws.proofs.VerdictLaws.{Verdict, held, number_stage, once_tells}
use Rattle.laws.proofs.DecideLaws.{eq_decides, lt_decides}
use Rattle.laws.proofs.TestedLaws.{Decided, decide_cases}
use Rattle.tables.specs.facts.Board.{Board, node_count, node_name}
use Rattle.wellformed.specs.facts.Order.{stage}
use Rattle.wellformed.specs.facts.Rules.{WellFormed}
use Rattle.tables.specs.facts.Binding.{map_word}
use Rattle.cpumap.specs.facts.Map.{Map}
use Rattle.cpumap.specs.facts.Rules.{MapRule}
use Rattle.cpumap.specs.answers.Find.{map_of, no_map_fault, second_map_fault, map_fault}
use Rattle.cpumap.proofs.MapMeans.{map_name_test, map_of_lem, map_found, map_is}

-- a record named `cpu-map` that is not the map
abbrev Second : Board → ℕ → Type 0
Second b i = (m : ℕ) × Map b m × (i < node_count b.nodes) × (node_name b i ≡ map_word) × (i ≡ m → ⊥)

-- the stages of rules 15 and 16
pub map_staged : {b : Board} {n p : ℕ} → MapRule b n p → (stage 15 ≤ stage n) × (stage n < stage 17)
map_staged (MapRule.cpu_map_missing _) = omega arith
map_staged (MapRule.cpu_map_duplicate _ _ _ _ _ _) = omega arith

module _ (b : Board) (well : WellFormed b) where
  abbrev count : ℕ
  count = node_count b.nodes

  abbrev found : ℕ
  found = map_of b.nodes b.pool

  -- the numbers told
  no_map_told : Verdict (MapRule b) 15 0 (Map b found) (no_map_fault b.nodes b.pool)
  no_map_told = go (decide_cases (lt_decides found count))
    where
      go : {t : Bool} → Decided (found < count) t → Verdict (MapRule b) 15 0 (Map b found) (cond t 0 15)
      go (Decided.holds lt) = Verdict.sound (map_of_lem b well lt)
      go (Decided.fails n) = Verdict.broken (MapRule.cpu_map_missing (λ m s. n (map_found b well m s)))

  second_map_told : Map b found → (i : ℕ) → i < count → Verdict (MapRule b) 16 i (Second b i → ⊥) (second_map_fault b.nodes b.pool i)
  unfolding second_map_fault
  second_map_told is_map i lt = go (decide_cases (map_name_test b well i lt)) (decide_cases (eq_decides i found))
    where
      go :
          {t s : Bool} →
          Decided (node_name b i ≡ map_word) t →
          Decided (i ≡ found) s →
          Verdict (MapRule b) 16 i (Second b i → ⊥) (cond t (cond s 0 16) 0)
      go (Decided.holds name) (Decided.holds e) = Verdict.sound (λ w. w.4 (e ∙ sym (map_is b well w.0 w.1)))
      go (Decided.holds name) (Decided.fails ne) = Verdict.broken (MapRule.cpu_map_duplicate found i is_map lt name ne)
      go (Decided.fails n) e = Verdict.sound (λ w. n w.3)

  -- what their stages refute
  no_map_broken : {m q : ℕ} → MapRule b m q → stage m ≡ stage 15 → (m ≡ 15) × (q ≡ 0) × (Map b found → ⊥)
  no_map_broken (MapRule.cpu_map_missing none) _ = (refl, refl, none found)
  no_map_broken (MapRule.cpu_map_duplicate _ _ _ _ _ _) e = absurd (omega arith)

  second_map_broken : {m q : ℕ} → MapRule b m q → stage m ≡ stage 16 → (m ≡ 16) × (q < count) × ((Second b q → ⊥) → ⊥)
  second_map_broken (MapRule.cpu_map_missing _) e = absurd (omega arith)
  second_map_broken (MapRule.cpu_map_duplicate m i map lt name ne) _ = (refl, lt, λ none. none (m, map, lt, name, ne))

  -- where neither is broken there is a map
  pub map_there : {to : ℕ} → stage 15 < to → NoneIn stage (MapRule b) (stage 15) to → Map b found
  map_there lt none = held no_map_told (λ r. none 15 0 (r, omega arith, lt))

  pub map_tells : Tells stage (MapRule b) (stage 15) (stage 17) (map_fault b.nodes b.pool)
  unfolding map_fault
  map_tells =
      then_tells stage (MapRule b) (omega arith) (omega arith)
      (once_tells stage (MapRule b) 15 (omega arith) (λ m q. no_map_broken) no_map_told) λ none.
      stage_tells stage (MapRule b) (stage 16) count (second_map_fault b.nodes b.pool)
      (number_stage stage (MapRule b) 16 (omega arith) (λ i. Second b i → ⊥) (λ m q. second_map_broken)
      (λ q lt _. second_map_told (map_there (omega arith) none) q lt))
