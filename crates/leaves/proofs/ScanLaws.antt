-- SPDX-License-Identifier: BSD-2-Clause OR GPL-2.0-or-later
-- What the scan of the tree answers after each pass, and where it is told of the board's cpu records. Assumes nothing.
use mathlib.Core.Path.{◌≡◌, refl, sym, ap, ap₂, subst, ◌∙◌}
use mathlib.Core.Bool.{Bool, cond}
use mathlib.Core.List.{List, map}
use Prim.Native.Nat.{ℕ, zero, suc, ◌*◌, ◌≤◌, min}
use native.Mathlib.Omega.{arith}
use lib.ListN.{length, get_or, take}
use borrow.Author.Tests.{eq-eqb, ne_eqb}
use Rattle.laws.specs.facts.Told.{Fault}
use Rattle.laws.specs.answers.Fault.{clear, told, or_else, first_fault, with_second}
use Rattle.laws.specs.answers.Listed.{laid_over, fault_of_member}
use Rattle.laws.proofs.FaultLaws.{or_first, or_second, below_clear}
use Rattle.laws.proofs.OrElseLaws.{or_clear}
use Rattle.laws.proofs.RuleStageLaws.{first_clears}
use Rattle.laws.proofs.GatherLaws.{first_same}
use Rattle.laws.proofs.CutLaws.{cut_same}
use Rattle.tables.specs.facts.Board.{node_count}
use Rattle.laws.specs.facts.Limits.{max_nodes, max_cpus}
use Rattle.leaves.specs.facts.Told.{TreeScan}
use Rattle.leaves.specs.answers.Check.{indexed_cpu}
use Rattle.leaves.specs.answers.Scan.{Tree, tree, lent_tree, check, cpu_of, named_below, tree_fault}
use Rattle.leaves.specs.answers.Scan.{record_fault, leaves_fault, leaf_list, scanned, tree_scan}
use Rattle.leaves.specs.answers.Scan.{passed, leaves_over, named_over}
use Rattle.leaves.specs.steps.Pass.{Marked, PassArrays, leaf_scan, unmarked_fault}
use Rattle.leaves.proofs.LeafCount.{leaves_le, clear_apart}

-- where no record breaks rules 18 to 25 nothing is told
record_clears : (t : Tree) → (record_fault t).number ≡ 0 → record_fault t ≡ clear
record_clears t z = ap (with_second (λ i. (check t i).second)) (first_clears (tree_fault t) (node_count t.nodes) z)

-- what the passes tell
module _ (t : Tree) (records : List ℕ) where
  abbrev first : Fault
  first = record_fault t

  abbrev unnamed : Fault
  unnamed = first_fault (λ k. cond (named_below t (node_count t.nodes) k) 0 26) (length records)

  abbrev last : Fault
  last = fault_of_member records unnamed

  module _ {s : TreeScan} (e : s ≡ leaf_scan t) where
    stages : scanned t (or_else first last) ≡ tree_scan t records
    unfolding leaves_fault
    stages = refl

    number_is : s.fault.number ≡ first.number
    unfolding leaf_scan
    number_is = ap (λ (r : TreeScan). r.fault.number) e

    pub first_told : (s.fault.number ≡ 0 → ⊥) → s ≡ tree_scan t records
    unfolding leaf_scan
    first_told ne = e ∙ ap (scanned t) (sym (or_first first last (λ z. ne (number_is ∙ z)))) ∙ stages

    -- no record breaks rules 18 to 25
    module _ (z : s.fault.number ≡ 0) where
      first_zero : first.number ≡ 0
      first_zero = sym number_is ∙ z

      -- the second pass looks for rule 26 among the marks of all leaves
      pub last_is :
          {marks : List Bool} {f : Fault} →
          Marked t (passed t) marks →
          f ≡ fault_of_member records (first_fault (unmarked_fault marks) (length records)) →
          f ≡ last
      unfolding unmarked_fault
      last_is {marks} m h =
          let all : Marked t (node_count t.nodes) marks = rw (eq-eqb first.number 0 first_zero) at m in
          h
          ∙ ap (fault_of_member records)
          (first_same (unmarked_fault marks) (λ k. cond (named_below t (node_count t.nodes) k) 0 26) (length records)
          (λ k lt _. ap (λ (b : Bool). cond b 0 26) (all.each k)))

      module _ {f : Fault} (h : f ≡ last) where
        second : scanned t f ≡ tree_scan t records
        second = ap (scanned t) (h ∙ sym (or_second first last first_zero)) ∙ stages

        pub last_told : (f.number ≡ 0 → ⊥) → record { fault = f; count = 0 } ≡ tree_scan t records
        last_told ne = sym (rw (ne_eqb f.number 0 ne)) ∙ second

        pub last_clear : f.number ≡ 0 → s ≡ tree_scan t records
        unfolding leaf_scan
        last_clear y = e ∙ ap (scanned t) (record_clears t first_zero ∙ sym clears) ∙ second
          where
            told_clear : (v i : ℕ) → (told v i).number ≡ 0 → told v i ≡ clear
            told_clear zero i q = refl
            told_clear (suc v) i q = absurd (omega arith)

            clears : f ≡ clear
            clears = h ∙ told_clear unnamed.number (get_or records unnamed.place 0) (ap (λ (a : Fault). a.number) (sym h) ∙ y)

-- where no rule is broken, the lent arrays hold all leaves, of which there are no more than phandles
module _ (t : Tree) (records : List ℕ) (z : (leaves_fault t records).number ≡ 0) where
  first_clear : first_fault (tree_fault t) (node_count t.nodes) ≡ clear
  unfolding leaves_fault
  first_clear = first_clears (tree_fault t) (node_count t.nodes) (or_clear (record_fault t) _ z).0

  pub leaves_few : length (leaf_list t) ≤ length t.phandles
  leaves_few =
      leaves_le t (node_count t.nodes) (clear_apart t (node_count t.nodes) (below_clear (tree_fault t) (node_count t.nodes) first_clear))

  pub leaves_listed : (before : List ℕ) → leaves_over t before ≡ laid_over (leaf_list t) before
  leaves_listed before = rw first_clear

  pub named_listed : (before : List ℕ) → named_over t before ≡ laid_over (map (cpu_of t) (leaf_list t)) before
  named_listed before = rw first_clear

-- what the pass over the records answers and leaves, of the tree with the first m words and n phandles of lent slices
pub cut_pass :
    (nodes props pool index : List ℕ) (root : ℕ) (phandles : List ℕ) {m n : ℕ} {s : TreeScan} →
    {leaves₀ named₀ : List ℕ} {marks : List Bool} {leaves named : List ℕ} →
    m ≡ min (length nodes) (3 * max_nodes) →
    n ≡ min (length phandles) max_cpus →
    let t = tree (take m nodes) (indexed_cpu props index) pool root (take n phandles) in
    (s ≡ leaf_scan t) × PassArrays t leaves₀ named₀ marks leaves named →
    let u = lent_tree nodes props pool index root phandles in
    (s ≡ leaf_scan u) × PassArrays u leaves₀ named₀ marks leaves named
cut_pass nodes props pool index root phandles {m} {n} {s} {leaves₀} {named₀} {marks} {leaves} {named} e f h =
    subst (λ (t : Tree). (s ≡ leaf_scan t) × PassArrays t leaves₀ named₀ marks leaves named)
    (ap₂ (λ (x y : List ℕ). tree x (indexed_cpu props index) pool root y) (cut_same nodes (3 * max_nodes) e) (cut_same phandles max_cpus f))
    h
