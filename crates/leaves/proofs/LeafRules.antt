-- SPDX-License-Identifier: BSD-2-Clause OR GPL-2.0-or-later
-- Rules 25 and 26 at one place: what they say, and the numbers told of them. Assumes well-formed tables and phandles for the numbers.
use mathlib.Core.Path.{◌≡◌, refl, sym, ◌∙◌}
use mathlib.Core.Bool.{Bool, true, false, cond}
use mathlib.Core.Logic.{inr}
use Prim.Native.Nat.{ℕ, ◌≤◌, ◌<◌}
use native.Mathlib.Omega.{arith}
use Rattle.laws.specs.answers.Search.{count_below}
use Rattle.laws.proofs.SearchLaws.{true_false}
use Rattle.laws.proofs.VerdictLaws.{Verdict}
use Rattle.laws.proofs.LeastLaws.{Tested}
use Rattle.tables.specs.facts.Board.{Board, WordSized, node_count}
use Rattle.wellformed.specs.facts.Rules.{WellFormed}
use Rattle.cpus.specs.facts.Node.{Cpu}
use Rattle.cpus.specs.facts.Rules.{SoundPhandles}
use Rattle.cpus.specs.answers.Check.{is_cpu}
use Rattle.cpus.proofs.CpuMeans.{cpu_test}
use Rattle.cpumap.specs.facts.Map.{Map}
use Rattle.leaves.specs.facts.Leaf.{Leaf, Names}
use Rattle.leaves.specs.facts.Rules.{LeafRule}
use Rattle.leaves.proofs.RuleCases.{TreeRule, leaf_inside}
use Rattle.leaves.specs.answers.Scan.{Tree, tree_at, check, is_leaf, cpu_of, named_below, repeat_fault}
use Rattle.leaves.proofs.LeafCount.{named_at, named_by}
use Rattle.leaves.proofs.PhandleMeans.{cpu_at, cpu_index, cpu_index_lem}
use Rattle.leaves.proofs.CheckLeaf.{check_leaf, leaf_check, names_cpu}

-- rule 26 at record i: the cpu record, whose index is the count of earlier ones, is named by no leaf
unfoldable pub unmapped_fault : Tree → ℕ → ℕ
unmapped_fault t i =
    cond (is_cpu t.nodes t.pool i) (cond (named_below t (node_count t.nodes) (count_below (is_cpu t.nodes t.pool) i)) 0 26) 0

-- what the rule says of a record
rule_26 : {b : Board} {i : ℕ} → LeafRule b 26 i → Cpu b i × ((j : ℕ) → Leaf b j → Names b j i → ⊥)
rule_26 (LeafRule.cpu_unmapped _ cpu none) = (cpu, none)

module _ {b : Board} (sized : WordSized b) (well : WellFormed b) (handles : SoundPhandles b) {m : ℕ} (is_map : Map b m) where
  abbrev t : Tree
  t = tree_at b m

  -- rule 25 at record i, where the check answers nothing of the records up to i
  pub repeat_tested : (i : ℕ) → ((k : ℕ) → k ≤ i → (check t k).number ≡ 0) → Tested 25 (LeafRule b 25 i) (repeat_fault t i)
  repeat_tested i clean = go (is_leaf t i) refl (named_below t i (cpu_of t i)) refl
    where
      found : (j : ℕ) → Leaf b j → j ≤ i → is_leaf t j ≡ true
      found j l le = leaf_check sized well handles is_map j l (clean j le)

      broken : is_leaf t i ≡ true → named_below t i (cpu_of t i) ≡ true → LeafRule b 25 i
      broken h e =
          let w = named_by t i (cpu_of t i) e in
          let here = check_leaf sized well handles is_map i h in
          let there = check_leaf sized well handles is_map w.0 w.2 in
          LeafRule.cpu_map_cpu_repeated i w.0 (cpu_at b (cpu_of t i)) here.0 there.0 w.1 here.1 (rw w.3 at there.1)

      named_twice : LeafRule b 25 i → (is_leaf t i ≡ true) × (named_below t i (cpu_of t i) ≡ true)
      named_twice (LeafRule.cpu_map_cpu_repeated _ j c l k lt m n) =
          let li = found i l (omega arith) in
          let lj = found j k (omega arith) in
          let there = names_cpu sized well handles is_map j c lj n in
          let same : cpu_of t j ≡ cpu_of t i = there ∙ sym (names_cpu sized well handles is_map i c li m) in
          (li, rw same at (named_at t i j lt lj))

      go : (l : Bool) → is_leaf t i ≡ l → (s : Bool) → named_below t i (cpu_of t i) ≡ s → Tested 25 (LeafRule b 25 i) (repeat_fault t i)
      go true e true f = rw (e, f) (Tested.broken (broken e f))
      go true e false f = rw (e, f) (Tested.sound (λ r. true_false (named_twice r).1 f))
      go false e s f = rw e (Tested.sound (λ r. true_false (named_twice r).0 e))

  -- a cpu record whose index is named is named by a leaf ..
  pub cpu_named : (c : ℕ) → Cpu b c → named_below t (node_count b.nodes) (cpu_index b c) ≡ true → (i : ℕ) × Leaf b i × Names b i c
  cpu_named c cpu e =
      let w = named_by t (node_count b.nodes) (cpu_index b c) e in
      let s = check_leaf sized well handles is_map w.0 w.2 in
      (w.0, s.0, rw (w.3, (cpu_index_lem well c cpu).1) at s.1)

  -- .. and any other is not, where the check answers nothing
  module _ (clean : (k : ℕ) → k < node_count b.nodes → (check t k).number ≡ 0) where
    pub cpu_unnamed : (c : ℕ) → named_below t (node_count b.nodes) (cpu_index b c) ≡ false → (i : ℕ) → Leaf b i → Names b i c → ⊥
    cpu_unnamed c e i l n =
        let lt = leaf_inside l in
        let h = leaf_check sized well handles is_map i l (clean i lt) in
        true_false (rw (names_cpu sized well handles is_map i c h n) at (named_at t (node_count b.nodes) i lt h)) e

    -- rule 26 at record i
    pub unmapped_told : (i : ℕ) → Verdict (TreeRule b) 26 i (LeafRule b 26 i → ⊥) (unmapped_fault t i)
    unfolding unmapped_fault
    unmapped_told i = go (is_cpu b.nodes b.pool i) refl (named_below t (node_count b.nodes) (cpu_index b i)) refl
      where
        kept : named_below t (node_count b.nodes) (cpu_index b i) ≡ true → LeafRule b 26 i → ⊥
        kept e r = let w = rule_26 r in let s = cpu_named i w.0 e in w.1 s.0 s.1 s.2

        go :
            (l : Bool) →
            is_cpu b.nodes b.pool i ≡ l →
            (s : Bool) →
            named_below t (node_count b.nodes) (cpu_index b i) ≡ s →
            Verdict (TreeRule b) 26 i (LeafRule b 26 i → ⊥) (cond l (cond s 0 26) 0)
        go true e true f = Verdict.sound (kept f)
        go true e false f = Verdict.broken (inr (LeafRule.cpu_unmapped i ((cpu_test well i).0 e) (cpu_unnamed i f)))
        go false e s f = Verdict.sound (λ r. true_false ((cpu_test well i).1 (rule_26 r).0) e)
