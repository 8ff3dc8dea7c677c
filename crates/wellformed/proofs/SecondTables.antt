-- SPDX-License-Identifier: BSD-2-Clause OR GPL-2.0-or-later
-- Rules 1 to 8 are told of no property, and where rule 8 is kept there is one second place. Assumes nothing.
use mathlib.Core.Path.{◌≡◌, refl}
use mathlib.Core.Bool.{Bool, true, false}
use mathlib.Core.List.{List}
use Prim.Native.Nat.{ℕ, ◌≤◌}
use native.Mathlib.Omega.{arith}
use lib.Dec.{eqb}
use lib.ListN.{length}
use borrow.Author.Tests.{eqb-true, eqb-false}
use Rattle.laws.specs.facts.Told.{Fault}
use Rattle.laws.specs.answers.Fault.{told, first_fault}
use Rattle.laws.proofs.SecondPlaceLaws.{Plain, told_plain, else_plain, first_plain}
use Rattle.tables.specs.facts.Board.{Board, node_count, prop_count}
use Rattle.tables.specs.facts.Second.{Concerns, Second}
use Rattle.tables.proofs.SecondLaws.{HasSecond, no_concern, second_unique}
use Rattle.records.specs.answers.Check.{node_fault, property_fault}
use Rattle.wellformed.specs.facts.Order.{stage}
use Rattle.wellformed.specs.facts.Rules.{TableRule}
use Rattle.wellformed.specs.answers.Check.{width_fault, node_words_fault, prop_words_fault, pool_fault, table_fault}
use Rattle.wellformed.proofs.RuleLaws.{table_tells}
use Rattle.wellformed.proofs.UniqueLaws.{property_unique}

-- where rule 8 is kept there is one second place
pub one_second : {b : Board} {n p q r : ℕ} → ((k : ℕ) → TableRule b 8 k → ⊥) → Second b n p q → Second b n p r → q ≡ r
one_second {b} {n} {p} kept = second_unique (λ key j k. property_unique b p key kept)

-- a number that speaks of a property is told after rules 1 to 8
late : {n : ℕ} {key : List ℕ} → Concerns n key → stage 9 ≤ stage n
late Concerns.device_type = omega arith
late Concerns.reg = omega arith
late Concerns.phandle = omega arith
late Concerns.cpu = omega arith
late Concerns.address_cells = omega arith
late Concerns.size_cells = omega arith

module _ (b : Board) where
  pub tables_plain : Plain (table_fault b)
  unfolding table_fault
  tables_plain =
      else_plain (told (width_fault b.width) 0) _ (told_plain (width_fault b.width) 0)
      (else_plain (told (node_words_fault (length b.nodes)) 0) _ (told_plain (node_words_fault (length b.nodes)) 0)
      (else_plain (told (prop_words_fault (length b.props)) 0) _ (told_plain (prop_words_fault (length b.props)) 0)
      (else_plain (told (pool_fault (length b.pool)) 0) _ (told_plain (pool_fault (length b.pool)) 0)
      (else_plain nodes props (first_plain (node_fault b.nodes (length b.pool)) (node_count b.nodes))
      (first_plain (property_fault (node_count b.nodes) b.props b.pool) (prop_count b.props))))))
    where
      nodes : Fault
      nodes = first_fault (node_fault b.nodes (length b.pool)) (node_count b.nodes)

      props : Fault
      props = first_fault (property_fault (node_count b.nodes) b.props b.pool) (prop_count b.props)

  pub tables_silent : (key : List ℕ) → Concerns (table_fault b).number key → ⊥
  tables_silent key = go (eqb (table_fault b).number 0) refl
    where
      go : (t : Bool) → eqb (table_fault b).number 0 ≡ t → Concerns (table_fault b).number key → ⊥
      go true e c = no_concern refl (rw (eqb-true (table_fault b).number 0 e) at c)
      go false e c = omega (arith, late c, ((table_tells b).told (eqb-false (table_fault b).number 0 e)).broken.2)

  pub tables_second : HasSecond b (table_fault b)
  tables_second = rw tables_plain (Second.none tables_silent)
