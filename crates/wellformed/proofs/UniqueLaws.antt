-- SPDX-License-Identifier: BSD-2-Clause OR GPL-2.0-or-later
-- Where rule 8 is not broken, a record has at most one property of a name, and the lookup finds it. Assumes nothing.
use mathlib.Core.Path.{◌≡◌, sym, ap, ◌∙◌}
use mathlib.Core.Logic.{⊎_elim}
use mathlib.Core.List.{List}
use Prim.Native.Nat.{ℕ, ◌<◌}
use Rattle.laws.proofs.FirstLaws.{compared}
use Rattle.tables.specs.facts.Board.{Board, prop_value}
use Rattle.tables.specs.facts.Property.{Property, HasValue}
use Rattle.wellformed.specs.facts.Rules.{TableRule}

module _ (b : Board) (i : ℕ) (key : List ℕ) (no_repeat : (k : ℕ) → TableRule b 8 k → ⊥) where
  not_before : {j k : ℕ} → Property b i key j → Property b i key k → j < k → ⊥
  not_before {j} {k} g h lt = no_repeat k (TableRule.duplicate_property j k lt h.inside (g.node ∙ sym h.node) (g.name ∙ sym h.name))

  pub property_unique : {j k : ℕ} → Property b i key j → Property b i key k → j ≡ k
  property_unique {j} {k} g h = ⊎_elim (λ lt. absurd (not_before g h lt)) (⊎_elim (λ e. e) (λ lt. absurd (not_before h g lt))) (compared j k)

  pub value_unique : {v w : List ℕ} → HasValue b i key v → HasValue b i key w → v ≡ w
  value_unique g h = sym g.bytes ∙ ap (prop_value b) (property_unique g.property h.property) ∙ h.bytes
