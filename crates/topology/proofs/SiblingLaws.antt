-- SPDX-License-Identifier: BSD-2-Clause OR GPL-2.0-or-later
-- The pass over the children of a record that settles whether a number is free for one of them. Assumes nothing.
use mathlib.Core.Path.{◌≡◌, sym, ap, ◌∙◌}
use mathlib.Core.Bool.{true, false}
use mathlib.Core.Logic.{⊎_elim}
use mathlib.Core.List.{List}
use Prim.Native.Nat.{ℕ, ◌+◌, ◌≤◌, ◌<◌}
use native.Mathlib.Nat.{eq-or-lt_of_le}
use native.Mathlib.Omega.{arith}
use borrow.Author.Tests.{lt-ltb, le-ltb}
use Rattle.laws.specs.answers.Search.{any_below, count_below}
use Rattle.laws.proofs.SearchLaws.{true_false, below_suc, any_at, any_place, count_yes, count_no, list_length}
use Rattle.laws.proofs.TestLaws.{false_unless}
use Rattle.laws.proofs.PassLaws.{count_none}
use Rattle.laws.proofs.IndexLaws.{index_of_lem}
use Rattle.laws.proofs.DecideLaws.{decides_not}
use Rattle.tables.specs.facts.Board.{node_count}
use Rattle.tables.specs.facts.Tree.{Child}
use Rattle.tables.specs.answers.Tree.{is_child}
use Rattle.tables.proofs.DecideLaws.{child_test}
use Rattle.cpumap.specs.answers.Path.{topology_name}
use Rattle.cpumap.specs.answers.Number.{is_numbered}
use Rattle.topology.specs.answers.Siblings.{holds_number, child_count, is_free}

-- the records before j: so many are children, no child before i has the number, and beyond i there are not yet more than n
pub record Passed (nodes pool : List ℕ) (p i n j count : ℕ) : Type 0 where
  pub inside : j ≤ node_count nodes
  pub counted : count ≡ count_below (is_child nodes p) j
  pub fresh : (k : ℕ) → k < j → k < i → holds_number nodes pool p n k ≡ false
  pub few : i < j → count ≤ n

module _ (nodes pool : List ℕ) (p i n : ℕ) (child : Child nodes p i) where
  no_child : (k : ℕ) → k < p + 1 → is_child nodes p k ≡ false
  no_child k lt = (decides_not (child_test nodes p k)).1 (λ c. let e = c.earlier in omega arith)

  -- no record up to p is its child
  pub passed_none : Passed nodes pool p i n (p + 1) 0
  passed_none = record {
    inside = let in_i = child.inside in let after = child.earlier in omega arith;
    counted = sym (count_none (is_child nodes p) (p + 1) no_child);
    fresh = λ k lt _. rw (no_child k lt);
    few = λ lt. let after = child.earlier in absurd (omega arith);
  }

  module _ {j count : ℕ} (passed : Passed nodes pool p i n j count) where
    none : i ≤ j → any_below (holds_number nodes pool p n) i ≡ false
    none le =
        false_unless (any_below (holds_number nodes pool p n) i)
        (λ e. let t = any_place (holds_number nodes pool p n) i e in true_false t.2 (passed.fresh t.0 (omega (arith, t.1)) t.1))

    -- all are passed: there are not more than n
    pub free_none : node_count nodes ≤ j → false ≡ is_free nodes pool p i n
    unfolding is_free
    free_none end =
        let inside = child.inside in
        let low = passed.inside in
        let all : j ≡ node_count nodes = omega arith in
        let few : child_count nodes p ≤ n = rw (← all, ← passed.counted) (passed.few (omega arith)) in
        rw (none (omega arith), le-ltb n (child_count nodes p) few)

    module _ (lt : j < node_count nodes) where
      fresh_next : (j < i → holds_number nodes pool p n j ≡ false) → (k : ℕ) → k < j + 1 → k < i → holds_number nodes pool p n k ≡ false
      fresh_next h k l = below_suc {P = λ k. k < i → holds_number nodes pool p n k ≡ false} j passed.fresh h k (omega arith)

      -- a record that is no child
      pub passed_other : is_child nodes p j ≡ false → Passed nodes pool p i n (j + 1) count
      passed_other e = record {
        inside = omega arith;
        counted = passed.counted ∙ sym (count_no (is_child nodes p) j e);
        fresh = fresh_next (λ _. rw e);
        few = λ l. ⊎_elim (λ q. true_false ((child_test nodes p j).1 (rw q at child)) e) passed.few (eq-or-lt_of_le (omega arith));
      }

      module _ (yes : is_child nodes p j ≡ true) where
        counted_next : count + 1 ≡ count_below (is_child nodes p) (j + 1)
        counted_next = ap (λ (k : ℕ). k + 1) passed.counted ∙ sym (count_yes (is_child nodes p) j yes)

        -- a child before i: it has the number, or not
        pub free_taken : j < i → is_numbered n (topology_name nodes pool j) ≡ true → false ≡ is_free nodes pool p i n
        unfolding is_free
        free_taken before e = rw (any_at (holds_number nodes pool p n) j i before (rw yes e))

        pub passed_earlier : j < i → is_numbered n (topology_name nodes pool j) ≡ false → Passed nodes pool p i n (j + 1) (count + 1)
        passed_earlier before e = record {
          inside = omega arith;
          counted = counted_next;
          fresh = fresh_next (λ _. rw yes e);
          few = λ l. absurd (omega arith);
        }

        -- a child from i on: it is child number n or a later one, or not
        pub free_enough : i ≤ j → n ≤ count → true ≡ is_free nodes pool p i n
        unfolding is_free
        free_enough from le =
            let more = (index_of_lem (is_child nodes p) j (node_count nodes) yes lt).0 in
            let size = list_length (is_child nodes p) (node_count nodes) in
            let counted = passed.counted in
            rw (none from, lt-ltb n (child_count nodes p) (omega arith))

        pub passed_later : i ≤ j → count < n → Passed nodes pool p i n (j + 1) (count + 1)
        passed_later from below = record {
          inside = omega arith;
          counted = counted_next;
          fresh = fresh_next (λ l. absurd (omega arith));
          few = λ _. omega arith;
        }
