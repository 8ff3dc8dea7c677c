-- SPDX-License-Identifier: BSD-2-Clause OR GPL-2.0-or-later
-- The stages of the check, one after the other. Assumes nothing.
use mathlib.Core.Path.{◌≡◌, sym, ap, ◌∙◌}
use Prim.Native.Nat.{ℕ}
use lib.ListN.{length}
use Rattle.laws.specs.facts.Told.{Fault}
use Rattle.laws.specs.answers.Fault.{plain, told, or_else, first_fault, or_number}
use Rattle.laws.proofs.FaultLaws.{or_first, or_second}
use Rattle.laws.proofs.OrElseLaws.{told_or, told_first, told_second}
use Rattle.tables.specs.facts.Board.{Board, node_count, prop_count}
use Rattle.records.specs.answers.Check.{node_fault, property_fault}
use Rattle.wellformed.specs.answers.Check.{width_fault, node_words_fault, prop_words_fault, pool_fault, table_fault}

module _ (b : Board) where
  abbrev shape_fault : ℕ
  shape_fault =
      or_number (width_fault b.width)
      (or_number (node_words_fault (length b.nodes)) (or_number (prop_words_fault (length b.props)) (pool_fault (length b.pool))))

  abbrev nodes_fault : Fault
  nodes_fault = first_fault (node_fault b.nodes (length b.pool)) (node_count b.nodes)

  abbrev properties_fault : Fault
  properties_fault = first_fault (property_fault (node_count b.nodes) b.props b.pool) (prop_count b.props)

  stages : or_else (told shape_fault 0) (or_else nodes_fault properties_fault) ≡ table_fault b
  unfolding table_fault
  stages =
      let rest = or_else nodes_fault properties_fault in
      let four = pool_fault (length b.pool) in
      let three = or_number (prop_words_fault (length b.props)) four in
      told_or (width_fault b.width) (or_number (node_words_fault (length b.nodes)) three) 0 rest
      ∙ ap (or_else (told (width_fault b.width) 0))
      (told_or (node_words_fault (length b.nodes)) three 0 rest
      ∙ ap (or_else (told (node_words_fault (length b.nodes)) 0)) (told_or (prop_words_fault (length b.props)) four 0 rest))

  pub shape_told : {v : ℕ} → v ≡ shape_fault → (v ≡ 0 → ⊥) → plain v 0 ≡ table_fault b
  shape_told {v} e ne =
      told_first v 0 (or_else nodes_fault properties_fault) ne ∙ ap (λ (n : ℕ). or_else (told n 0) (or_else nodes_fault properties_fault)) e ∙ stages

  past_shape : {v : ℕ} → v ≡ shape_fault → v ≡ 0 → or_else nodes_fault properties_fault ≡ table_fault b
  past_shape e z = sym (told_second shape_fault 0 (or_else nodes_fault properties_fault) (sym e ∙ z)) ∙ stages

  pub nodes_told : {v : ℕ} {x : Fault} → v ≡ shape_fault → v ≡ 0 → x ≡ nodes_fault → (x.number ≡ 0 → ⊥) → x ≡ table_fault b
  nodes_told e z n ne = n ∙ sym (or_first nodes_fault properties_fault (λ q. ne (ap (λ (f : Fault). f.number) n ∙ q))) ∙ past_shape e z

  pub properties_told :
      {v : ℕ} {x y : Fault} → v ≡ shape_fault → v ≡ 0 → x ≡ nodes_fault → x.number ≡ 0 → y ≡ properties_fault → y ≡ table_fault b
  properties_told e z n c p = p ∙ sym (or_second nodes_fault properties_fault (sym (ap (λ (f : Fault). f.number) n) ∙ c)) ∙ past_shape e z
