-- SPDX-License-Identifier: BSD-2-Clause OR GPL-2.0-or-later
-- The first broken one of rules 18 to 26 is told. Assumes well-formed tables, sound cpu nodes and phandles.
use mathlib.Core.Path.{◌≡◌, refl}
use mathlib.Core.Bool.{cond}
use mathlib.Core.Logic.{inl, inr}
use Prim.Native.Nat.{ℕ, ◌≤◌, ◌<◌}
use native.Mathlib.Omega.{arith}
use Rattle.laws.specs.facts.Told.{Fault}
use Rattle.laws.specs.answers.Fault.{or_else, first_fault}
use Rattle.laws.proofs.FaultLaws.{place_le}
use Rattle.laws.proofs.ListedLaws.{first_listed}
use Rattle.laws.proofs.FirstLaws.{Tells, Stage, stage_tells}
use Rattle.laws.proofs.RuleStageLaws.{else_place, then_tells}
use Rattle.laws.proofs.SecondPlaceLaws.{second_tells}
use Rattle.laws.proofs.VerdictLaws.{number_stage}
use Rattle.tables.specs.facts.Board.{Board, WordSized, node_count}
use Rattle.wellformed.specs.facts.Order.{stage}
use Rattle.wellformed.specs.facts.Rules.{WellFormed}
use Rattle.cpus.specs.facts.Rules.{SoundCpus, SoundPhandles}
use Rattle.cpus.specs.answers.Check.{is_cpu, cpu_list}
use Rattle.cpumap.specs.facts.Map.{Map}
use Rattle.topology.proofs.RuleCases as topology
use Rattle.leaves.specs.facts.Rules.{LeafRule}
use Rattle.leaves.specs.answers.Scan.{Tree, tree_at, check, named_below, tree_fault, record_fault, leaves_fault}
use Rattle.leaves.proofs.RuleCases.{TreeRule}
use Rattle.leaves.proofs.LeafRules.{unmapped_fault, unmapped_told}
use Rattle.leaves.proofs.TreeLeast.{records_stage, sound_checks}

-- the leaves' stages, place by place: rule 26 told of the cpu records of the tables
module _ (b : Board) (m : ℕ) where
  abbrev here : Fault
  here = record_fault (tree_at b m)

  abbrev there : Fault
  there = first_fault (unmapped_fault (tree_at b m)) (node_count b.nodes)

  leaf_places : leaves_fault (tree_at b m) (cpu_list b) ≡ or_else here there
  unfolding leaves_fault unmapped_fault
  leaf_places =
      rw (first_listed (is_cpu b.nodes b.pool) (λ k _. cond (named_below (tree_at b m) (node_count b.nodes) k) 0 26) (node_count b.nodes))

  -- a place told is at most the number of records
  pub leaves_place : (leaves_fault (tree_at b m) (cpu_list b)).place ≤ node_count b.nodes
  leaves_place =
      rw leaf_places
      (else_place here there (place_le (tree_fault (tree_at b m)) (node_count b.nodes)) λ _.
      place_le (unmapped_fault (tree_at b m)) (node_count b.nodes))

module _ {b : Board} (sized : WordSized b) (well : WellFormed b) (sound : SoundCpus b) (handles : SoundPhandles b) {m : ℕ} (is_map : Map b m) where
  abbrev t : Tree
  t = tree_at b m

  abbrev count : ℕ
  count = node_count b.nodes

  -- the stage of rule 26, after that of rules 18 to 25
  unmapped_broken : {n p : ℕ} → TreeRule b n p → stage n ≡ stage 26 → (n ≡ 26) × (p < count) × ((LeafRule b 26 p → ⊥) → ⊥)
  unmapped_broken (inl r) e = absurd (omega (arith, (topology.staged r).0))
  unmapped_broken (inr (LeafRule.cpu_map_phandle _ _ _)) e = absurd (omega arith)
  unmapped_broken (inr (LeafRule.cpu_map_cpu_repeated _ _ _ _ _ _ _ _)) e = absurd (omega arith)
  unmapped_broken (inr (LeafRule.cpu_unmapped c cpu no_leaf)) _ = (refl, cpu.child.inside, λ none. none (LeafRule.cpu_unmapped c cpu no_leaf))

  unmapped_stage : ((n p : ℕ) → TreeRule b n p → stage n ≡ stage 18 → ⊥) → Stage stage (TreeRule b) (stage 26) count (unmapped_fault t)
  unmapped_stage none =
      number_stage stage (TreeRule b) 26 (omega arith) (λ p. LeafRule b 26 p → ⊥) (λ n p. unmapped_broken)
      (λ i _ _. unmapped_told sized well handles is_map (sound_checks sized well sound handles is_map none) i)

  -- what the scan of the tree tells
  pub tree_tells : Tells stage (TreeRule b) (stage 18) (stage 27) (leaves_fault t (cpu_list b))
  tree_tells =
      rw (leaf_places b m)
      (then_tells stage (TreeRule b) (omega arith) (omega arith)
      (second_tells (λ i. (check t i).second)
      (stage_tells stage (TreeRule b) (stage 18) count (tree_fault t) (records_stage sized well sound handles is_map))) λ none.
      stage_tells stage (TreeRule b) (stage 26) count (unmapped_fault t) (unmapped_stage (λ n p r e. none n p (r, omega arith, omega arith))))
