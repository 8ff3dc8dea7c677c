-- SPDX-License-Identifier: BSD-2-Clause OR GPL-2.0-or-later
-- What is told of rules 18 to 25 at each record. Assumes well-formed tables, sound cpu nodes and phandles.
use mathlib.Core.Path.{◌≡◌, refl, sym, ap, ◌∙◌}
use mathlib.Core.Bool.{true}
use mathlib.Core.Logic.{⊎_elim}
use Prim.Native.Nat.{ℕ, ◌≤◌, ◌<◌}
use native.Mathlib.Nat.{eq-or-lt_of_le}
use native.Mathlib.Omega.{arith}
use lib.ListN.{length}
use Rattle.laws.specs.answers.Fault.{or_number}
use Rattle.laws.proofs.SearchLaws.{true_false}
use Rattle.laws.proofs.FirstLaws.{Smallest, Stage}
use Rattle.laws.proofs.LeastStageLaws.{smallest_none, smallest_only, smallest_then, stage_none}
use Rattle.tables.specs.facts.Board.{Board, WordSized, node_count}
use Rattle.wellformed.specs.facts.Order.{stage}
use Rattle.wellformed.specs.facts.Rules.{WellFormed}
use Rattle.cpus.specs.facts.Rules.{SoundCpus, SoundPhandles}
use Rattle.cpumap.specs.facts.Map.{Map}
use Rattle.cpumap.proofs.NameFacts.{root_nameless}
use Rattle.topology.proofs.ShapeMeans.{leaf_shape, shape_told}
use Rattle.leaves.specs.facts.Told.{RecordCheck}
use Rattle.leaves.specs.facts.Rules.{LeafRule}
use Rattle.leaves.specs.answers.Scan.{Tree, tree_at, check, repeat_fault, tree_fault}
use Rattle.leaves.proofs.RuleCases.{TreeRule, rule_leaf, leaf_staged, in_order, tree_inside}
use Rattle.leaves.proofs.CheckCases.{shape_of, named, Checked, checked, answers_fault, check_fault, fault_check}
use Rattle.leaves.proofs.LeafMeans.{index_names, names_none}
use Rattle.leaves.proofs.CheckLeaf.{name_leaf, leaf_check}
use Rattle.leaves.proofs.LeafRules.{repeat_tested}

module _ {b : Board} (sized : WordSized b) (well : WellFormed b) (sound : SoundCpus b) (handles : SoundPhandles b) {m : ℕ} (is_map : Map b m) where
  abbrev t : Tree
  t = tree_at b m

  abbrev count : ℕ
  count = node_count b.nodes

  number_of_lem : (i : ℕ) {r : RecordCheck} → check t i ≡ r → (check t i).number ≡ r.number
  number_of_lem i a = ap (λ (r : RecordCheck). r.number) a

  -- a record of which no number is answered breaks none of rules 18 to 23
  check_shape : (k : ℕ) → (check t k).number ≡ 0 → (shape_of t k).number ≡ 0
  check_shape k z = go (checked t k)
    where
      go : Checked t k → (shape_of t k).number ≡ 0
      go (Checked.inner _ a) = sym (number_of_lem k a) ∙ z
      go (Checked.nameless f _ _) = (leaf_shape b is_map k f).1
      go (Checked.leaf f _ _) = (leaf_shape b is_map k f).1

  module _ (i : ℕ) (lt : i < count) (clean : (k : ℕ) → k < i → tree_fault t k ≡ 0) where
    earlier : (k : ℕ) → k < i → (check t k).number ≡ 0
    earlier k l = fault_check t k (clean k l)

    -- rules 18 to 23, and where none of them is broken rules 24 and 25
    both :
        {w : ℕ} →
        ((shape_of t i).number ≡ 0 → Smallest stage (LeafRule b) (stage 18) i w) →
        Smallest stage (TreeRule b) (stage 18) i (or_number (shape_of t i).number w)
    both = smallest_then in_order (shape_told b is_map well (root_nameless b sound) i lt (λ k l. check_shape k (earlier k l)))

    of_leaf : {w : ℕ} → (shape_of t i).leaf ≡ true → Smallest stage (LeafRule b) (stage 18) i w → Smallest stage (TreeRule b) (stage 18) i w
    of_leaf h s = rw (leaf_shape b is_map i h).1 at (both (λ _. s))

    -- a leaf that names no cpu record breaks rule 24
    nameless_told : (shape_of t i).leaf ≡ true → length t.phandles ≤ named t i → Smallest stage (LeafRule b) (stage 18) i 24
    nameless_told h le =
        let s = leaf_shape b is_map i h in
        record {
          sound = λ _. (LeafRule.cpu_map_phandle i (name_leaf well i s.0 s.2) (names_none sized well handles i le), refl);
          least = λ n r _. (λ z. omega arith, (leaf_staged r).0);
        }

    -- any other can break rule 25 alone
    leaf_told : named t i < length t.phandles → (check t i).number ≡ 0 → Smallest stage (LeafRule b) (stage 18) i (repeat_fault t i)
    leaf_told k z =
        smallest_only stage (LeafRule b) (stage 18) 25 (omega arith) refl (λ n. only) (repeat_tested sized well handles is_map i checks)
      where
        only : {n : ℕ} → LeafRule b n i → stage n ≡ stage 18 → n ≡ 25
        only (LeafRule.cpu_map_phandle _ _ none) _ = absurd (none _ (index_names sized well handles i k))
        only (LeafRule.cpu_map_cpu_repeated _ _ _ _ _ _ _ _) _ = refl
        only (LeafRule.cpu_unmapped _ _ _) e = absurd (omega arith)

        checks : (k : ℕ) → k ≤ i → (check t k).number ≡ 0
        checks k le = ⊎_elim (λ q. rw q z) (earlier k) (eq-or-lt_of_le le)

    -- what is told of a record of which nothing earlier is told
    tree_least : Smallest stage (TreeRule b) (stage 18) i (tree_fault t i)
    tree_least = go (checked t i)
      where
        go : Checked t i → Smallest stage (TreeRule b) (stage 18) i (tree_fault t i)
        go (Checked.inner f a) =
            rw (answers_fault t i _ a)
            (both λ z.
            smallest_none stage (LeafRule b) (stage 18)
            (λ n r e. true_false (leaf_check sized well handles is_map i (rule_leaf r e) (number_of_lem i a ∙ z)) (ap (λ (c : RecordCheck). c.leaf) a)))
        go (Checked.nameless f le a) = rw (answers_fault t i 24 a) (of_leaf f (nameless_told f le))
        go (Checked.leaf f k a) = let z = number_of_lem i a in rw (check_fault t i z) (of_leaf f (leaf_told k z))

  pub records_stage : Stage stage (TreeRule b) (stage 18) count (tree_fault t)
  records_stage = record { inside = λ n p. tree_inside; smallest = tree_least }

  -- so nothing is answered where no rule of the stage is broken
  pub sound_checks : ((n p : ℕ) → TreeRule b n p → stage n ≡ stage 18 → ⊥) → (k : ℕ) → k < count → (check t k).number ≡ 0
  sound_checks none k lt = fault_check t k (stage_none (tree_fault t) records_stage none k lt)
