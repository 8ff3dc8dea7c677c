-- SPDX-License-Identifier: BSD-2-Clause OR GPL-2.0-or-later
-- Rules 18 to 23 at the map, outside the map and at record 0. Assumes well-formed tables.
use mathlib.Core.Path.{◌≡◌, refl}
use mathlib.Core.Bool.{cond}
use mathlib.Core.Logic.{⊎_elim}
use Prim.Native.Nat.{ℕ, ◌≤◌, ◌<◌}
use native.Mathlib.Omega.{arith}
use lib.Dec.{eqb}
use Rattle.laws.proofs.FirstLaws.{Smallest}
use Rattle.laws.proofs.LeastLaws.{Least}
use Rattle.laws.proofs.LeastStageLaws.{smallest_run, smallest_none, smallest_only}
use Rattle.laws.proofs.DecideLaws.{eq_decides}
use Rattle.laws.proofs.TestedLaws.{tested_unless}
use Rattle.tables.specs.facts.Board.{Board, node_count}
use Rattle.wellformed.specs.facts.Order.{stage}
use Rattle.wellformed.specs.facts.Rules.{WellFormed}
use Rattle.cpumap.specs.facts.Map.{Map, InMap, Outside}
use Rattle.cpumap.specs.answers.Path.{topology_name}
use Rattle.topology.specs.facts.Rules.{TopologyRule}
use Rattle.cpumap.specs.answers.Number.{kind_number}
use Rattle.topology.specs.answers.Check.{group_fault}
use Rattle.cpumap.proofs.NameFacts.{kind_number_zero, topology_other, topology_cases}
use Rattle.topology.proofs.RuleCases.{Place, staged}
use Rattle.cpumap.proofs.MapMeans.{map_unique, map_not_below, in_map_later, outside_not_map, outside_not_below}
use Rattle.topology.proofs.RecordMeans.{group_tested}

module _ (b : Board) (m : ℕ) (map : Map b m) where
  -- record 0 breaks none of them
  pub root_told : Smallest stage (TopologyRule b) (stage 18) 0 0
  root_told = smallest_none stage (TopologyRule b) (stage 18) (λ n r _. go (staged r).1)
    where
      go : {n : ℕ} → Place b n 0 → ⊥
      go (Place.outside _ pos _ _) = omega arith
      go (Place.the_map _ s) = omega (arith, s.child.earlier)
      go (Place.in_map _ _ t) = omega (arith, in_map_later b m map 0 t)

  -- a record below the map can break rules 19 to 23
  pub below_told : {i v : ℕ} → InMap b i → Least (λ n. TopologyRule b n i) 19 23 v → Smallest stage (TopologyRule b) (stage 18) i v
  below_told {i} t = smallest_run stage (TopologyRule b) (stage 18) (λ n r _. go (staged r).1) (λ n r _ _. (staged r).0)
    where
      go : {n : ℕ} → Place b n i → (19 ≤ n) × (n ≤ 23)
      go (Place.outside _ _ _ out) = absurd (outside_not_below b m map i out t)
      go (Place.the_map q _) = omega arith
      go (Place.in_map l h _) = (l, h)

module _ (b : Board) (well : WellFormed b) (m : ℕ) (map : Map b m) where
  -- the map can break rule 23 alone
  pub map_told : Smallest stage (TopologyRule b) (stage 18) m (group_fault b.nodes m)
  map_told =
      smallest_only stage (TopologyRule b) (stage 18) 23 (omega arith) refl (λ n r _. go (staged r).1)
      (group_tested b well m (TopologyRule.cpu_map_empty m map))
    where
      go : {n : ℕ} → Place b n m → n ≡ 23
      go (Place.outside _ _ _ out) = absurd (outside_not_map b m map m out refl)
      go (Place.the_map e _) = e
      go (Place.in_map _ _ t) = absurd (map_not_below b m map t)

  -- a record outside the map can break rule 18 alone
  pub outside_told :
      (i : ℕ) →
      0 < i →
      i < node_count b.nodes →
      Outside b i →
      Smallest stage (TopologyRule b) (stage 18) i (cond (eqb (kind_number (topology_name b.nodes b.pool i)) 0) 0 18)
  outside_told i pos lt out =
      smallest_only stage (TopologyRule b) (stage 18) 18 (omega arith) refl (λ n r _. go (staged r).1)
      (tested_unless keeps breaks (eq_decides (kind_number (topology_name b.nodes b.pool i)) 0))
    where
      go : {n : ℕ} → Place b n i → n ≡ 18
      go (Place.outside e _ _ _) = e
      go (Place.the_map _ s) = absurd (outside_not_map b m map i out (map_unique b i m s map))
      go (Place.in_map _ _ t) = absurd (outside_not_below b m map i out t)

      keeps : kind_number (topology_name b.nodes b.pool i) ≡ 0 → TopologyRule b 18 i → ⊥
      keeps z (TopologyRule.topology_outside_map _ kind _ _ _ is) = (topology_other b well i lt).0 (kind_number_zero _ z) kind is

      breaks : (kind_number (topology_name b.nodes b.pool i) ≡ 0 → ⊥) → TopologyRule b 18 i
      breaks ne =
          ⊎_elim
          (λ t. TopologyRule.topology_outside_map i t.0 pos lt out (t.1, t.3))
          (λ t. absurd (ne (rw t.0)))
          (topology_cases b well i lt)
