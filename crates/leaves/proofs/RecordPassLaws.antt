-- SPDX-License-Identifier: BSD-2-Clause OR GPL-2.0-or-later
-- The pass over the records: what it has gathered before a record, and what it leaves. Assumes nothing.
use mathlib.Core.Path.{◌≡◌, refl, sym, ap, ap₂, ◌∙◌}
use mathlib.Core.Bool.{Bool, true, false, cond}
use mathlib.Core.Logic.{◌⊎◌, inl, inr}
use mathlib.Core.List.{List, map}
use Prim.Native.Nat.{ℕ, ◌+◌, ◌≤◌, ◌<◌}
use native.Mathlib.Numerals.{add-one}
use native.Mathlib.Omega.{arith}
use lib.Dec.{eqb}
use lib.ListN.{length, get_or, set, replicate, length-set, length-replicate, get_or-replicate, get_or-eq_default}
use lib.Seq.{get_or-set_same, get_or-set_other}
use borrow.Author.Tests.{ne_eqb, eqb-true, eqb-false}
use Rattle.std.specs.Prelude.{None, Ok, Err}
use Rattle.laws.specs.declared.rules.Refusal.{Refusal}
use Rattle.laws.specs.facts.Told.{number_of}
use Rattle.laws.specs.answers.Fault.{plain, clear, or_number, first_fault}
use Rattle.laws.specs.answers.Search.{any_below, count_below, list_below}
use Rattle.laws.specs.answers.Listed.{laid_over}
use Rattle.laws.proofs.SearchLaws.{lt_or_le, count_yes, count_no, list_no, list_length}
use Rattle.laws.proofs.ToldLaws.{rule_counts, number_first}
use Rattle.laws.proofs.FaultLaws.{clear_more, at_fault, at_end}
use Rattle.laws.proofs.GatherLaws.{gathered_length, gathered_more}
use Rattle.laws.proofs.OverLaws.{over_none, over_add, listed_yes, listed_no}
use Rattle.tables.specs.facts.Board.{node_count}
use Rattle.laws.specs.facts.Limits.{max_cpus, no_property}
use Rattle.leaves.specs.facts.Told.{RecordCheck}
use Rattle.leaves.specs.answers.Scan.{Tree, check, is_leaf, cpu_of, named_below, tree_fault, leaf_list, passed}
use Rattle.leaves.specs.steps.Pass.{is_marked, Marked, PassArrays, leaf_scan}
use Rattle.leaves.specs.answers.Told.{check_told, tree_told}
use Rattle.leaves.proofs.LeafCount.{leaf_is, leaves_fit}

-- the number that a record breaks: its own, or 25 where it is a leaf and an earlier leaf names its cpu
abbrev checked_fault : List Bool → RecordCheck → ℕ
checked_fault marks r = or_number r.number (cond r.leaf (cond (is_marked marks r.cpu) 25 0) 0)

-- no leaf names a cpu yet
marked_none : (t : Tree) {marks : List Bool} → marks ≡ replicate 256 false → Marked t 0 marks
unfolding named_below any_below
marked_none t {marks} e = record { size = rw (e, length-replicate {A = Bool} 256 false); each = λ k. rw e (go k (lt_or_le k 256)) }
  where
    go : (k : ℕ) → (k < 256) ⊎ (256 ≤ k) → get_or {A = Bool} (replicate 256 false) k false ≡ false
    go k (inl lt) = get_or-replicate {A = Bool} 256 k false false lt
    go k (inr le) = get_or-eq_default {A = Bool} (replicate 256 false) false {n = k} (rw (length-replicate {A = Bool} 256 false) le)

-- what is marked before record i + 1
module _ (t : Tree) {marks : List Bool} {i : ℕ} (m : Marked t i marks) where
  mark_keep : is_leaf t i ≡ false → Marked t (i + 1) marks
  unfolding named_below any_below
  mark_keep h = record { size = m.size; each = λ k. rw (add-one i, h) (m.each k) }

  mark_push : {c : ℕ} → c ≡ cpu_of t i → c < 256 → is_leaf t i ≡ true → Marked t (i + 1) (set marks c true)
  unfolding named_below any_below
  mark_push {c} e lt h = record { size = length-set marks c true ∙ m.size; each = λ k. rw (add-one i, h, ← e) (go k (eqb c k) refl) }
    where
      go : (k : ℕ) (b : Bool) → eqb c k ≡ b → get_or (set marks c true) k false ≡ cond b true (named_below t i k)
      go k true q = let same = eqb-true c k q in rw (← same, get_or-set_same marks c true false (omega (arith, m.size)))
      go k false q = rw (get_or-set_other marks c k true false (λ r. eqb-false c k q (sym r))) (m.each k)

module _ (t : Tree) (leaves₀ named₀ : List ℕ) where
  -- what is gathered in the lent arrays before record i, where the records before it break no rule
  pub record Gathered (marks : List Bool) (leaves named : List ℕ) (count i : ℕ) : Type 0 where
    pub clean : first_fault (tree_fault t) i ≡ clear
    pub counted : count ≡ count_below (is_leaf t) i
    pub leaves_are : leaves ≡ laid_over (list_below (is_leaf t) i) leaves₀
    pub named_are : named ≡ laid_over (map (cpu_of t) (list_below (is_leaf t) i)) named₀
    pub marks_are : Marked t i marks

  pub gathered_none : {marks : List Bool} → marks ≡ replicate 256 false → Gathered marks leaves₀ named₀ 0 0
  unfolding first_fault count_below list_below
  gathered_none e =
      record { clean = refl; counted = refl; leaves_are = sym (over_none leaves₀); named_are = sym (over_none named₀); marks_are = marked_none t e }

  module _ {marks : List Bool} {leaves named : List ℕ} {count i : ℕ} (g : Gathered marks leaves named count i) where
    fault_is : {r : RecordCheck} → r ≡ check t i → checked_fault marks r ≡ tree_fault t i
    unfolding tree_fault
    fault_is e =
        ap (checked_fault marks) e
        ∙ ap (λ (b : Bool). or_number (check t i).number (cond (is_leaf t i) (cond b 25 0) 0)) (g.marks_are.each (cpu_of t i))

    -- what is left in the arrays where the pass ends at record i
    abbrev LeftHere : Type 0
    LeftHere = PassArrays t leaves₀ named₀ marks leaves named

    left : passed t ≡ i → LeftHere
    left e = record { marks_left = rw e g.marks_are; leaves_left = rw e g.leaves_are; named_left = rw e g.named_are }

    -- record i breaks a rule
    module _ {v : ℕ} (lt : i < node_count t.nodes) (e : v ≡ tree_fault t i) (ne : v ≡ 0 → ⊥) where
      first_at : first_fault (tree_fault t) (node_count t.nodes) ≡ plain v i
      first_at = sym (at_fault (tree_fault t) i (node_count t.nodes) lt g.clean e ne)

      told_scan : {s : ℕ} → s ≡ (check t i).second → record { fault = record { number = v; place = i; second = s }; count = 0 } ≡ leaf_scan t
      unfolding leaf_scan
      told_scan second = rw (first_at, ne_eqb v 0 ne, second)

      told_left : LeftHere
      told_left = left (rw (first_at, ne_eqb v 0 ne))

    -- the check of record i refuses it
    module _ {none : ℕ} (r : Refusal) (lt : i < node_count t.nodes) (e : check_told none (Err r) ≡ check t i) where
      broken : number_of r.rule ≡ tree_fault t i
      broken = sym (number_first r.rule 0) ∙ fault_is e

      pub refused_scan : r.place ≡ i → tree_told (Err r) ≡ leaf_scan t
      refused_scan p = rw p (told_scan lt broken (rule_counts r.rule) (ap (λ (c : RecordCheck). c.second) e))

      pub refused_left : LeftHere
      refused_left = told_left lt broken (rule_counts r.rule)

    -- all records are passed
    module _ (e : i ≡ node_count t.nodes) where
      first_none : first_fault (tree_fault t) (node_count t.nodes) ≡ clear
      first_none = sym (at_end (tree_fault t) i (node_count t.nodes) e g.clean)

      pub all_scan : record { fault = clear; count = count } ≡ leaf_scan t
      unfolding leaf_scan
      all_scan =
          let size : count ≡ length (leaf_list t) =
          g.counted ∙ sym (list_length (is_leaf t) i) ∙ ap (λ (k : ℕ). length (list_below (is_leaf t) k)) e in
          rw (first_none, size)

      pub all_left : LeftHere
      all_left = left (rw first_none (sym e))

    -- record i breaks none
    module _ (e : 0 ≡ tree_fault t i) where
      cleaner : first_fault (tree_fault t) (i + 1) ≡ clear
      cleaner = clear_more (tree_fault t) i g.clean e refl

      keep : is_leaf t i ≡ false → Gathered marks leaves named count (i + 1)
      keep h =
          record {
            clean = cleaner;
            counted = g.counted ∙ sym (count_no (is_leaf t) i h);
            leaves_are = listed_no (is_leaf t) i leaves₀ g.counted g.leaves_are h;
            named_are = rw (list_no (is_leaf t) i h) g.named_are;
            marks_are = mark_keep t g.marks_are h;
          }

    -- it is no leaf
    pub gather_keep : {none : ℕ} → check_told none (Ok None) ≡ check t i → Gathered marks leaves named count (i + 1)
    gather_keep e = keep (fault_is e) (sym (ap (λ (r : RecordCheck). r.leaf) e))

    -- it is a leaf that names a cpu
    module _ {cpu : ℕ} (e : record { number = 0; second = no_property; leaf = true; cpu = cpu } ≡ check t i) where
      is_a_leaf : is_leaf t i ≡ true
      is_a_leaf = sym (ap (λ (r : RecordCheck). r.leaf) e)

      names : cpu ≡ cpu_of t i
      names = ap (λ (r : RecordCheck). r.cpu) e

      -- .. that an earlier leaf names
      module _ (lt : i < node_count t.nodes) (marked : is_marked marks cpu ≡ true) where
        repeated : 25 ≡ tree_fault t i
        repeated = rw marked at (fault_is e)

        pub repeated_scan : record { fault = plain 25 i; count = 0 } ≡ leaf_scan t
        repeated_scan = told_scan lt repeated (λ z. omega arith) (ap (λ (r : RecordCheck). r.second) e)

        pub repeated_left : LeftHere
        repeated_left = told_left lt repeated (λ z. omega arith)

      -- .. that no earlier leaf names: there is room for it
      module _ (few : length t.phandles ≤ max_cpus) (unmarked : is_marked marks cpu ≡ false) where
        first_named : 0 ≡ tree_fault t i
        first_named = rw unmarked at (fault_is e)

        pub gather_room : count < 256
        gather_room =
            omega (
              arith,
              g.counted,
              count_yes (is_leaf t) i is_a_leaf,
              list_length (is_leaf t) (i + 1),
              leaves_fit t few (i + 1) (cleaner first_named),
            )

        pub cpu_room : cpu < 256
        cpu_room = omega (arith, names, (leaf_is t i is_a_leaf).inside)

        pub gather_push : Gathered (set marks cpu true) (set leaves count i) (set named count cpu) (count + 1) (i + 1)
        gather_push =
            record {
              clean = cleaner first_named;
              counted = omega (arith, g.counted, count_yes (is_leaf t) i is_a_leaf);
              leaves_are = listed_yes (is_leaf t) i leaves₀ g.counted g.leaves_are is_a_leaf;
              named_are =
                  ap₂ (λ (x : List ℕ) (y : ℕ). set x count y) g.named_are names
                  ∙ over_add (map (cpu_of t) (list_below (is_leaf t) i)) named₀ (cpu_of t i) count
                  (gathered_length (is_leaf t) (cpu_of t) i ∙ sym g.counted)
                  ∙ ap (λ (x : List ℕ). laid_over x named₀) (sym (gathered_more (is_leaf t) (cpu_of t) i is_a_leaf));
              marks_are = mark_push t g.marks_are names cpu_room is_a_leaf;
            }
