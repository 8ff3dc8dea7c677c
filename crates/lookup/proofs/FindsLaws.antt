-- SPDX-License-Identifier: BSD-2-Clause OR GPL-2.0-or-later
-- The lowest match inside the pool is what is to be found. Assumes nothing.
use Rattle.std.specs.Prelude.{None, Option, Some}
use Rattle.tables.specs.declared.Found.{Found}
use mathlib.Core.Path.{◌≡◌, refl, ap}
use mathlib.Core.Logic.{⊎_elim, ◌↔◌}
use mathlib.Core.List.{List}
use Prim.Native.Nat.{ℕ, ◌+◌}
use native.Mathlib.Omega.{arith}
use lib.ListN.{length}
use Rattle.laws.specs.facts.Lowest.{Lowest}
use Rattle.laws.proofs.SearchLaws.{lt_or_le}
use Rattle.laws.proofs.LowestLaws.{lowest_unique}
use Rattle.tables.specs.facts.Board.{Board, board, key_offset, key_length}
use Rattle.tables.specs.facts.Property.{Property, found_at}
use Rattle.tables.specs.answers.Lookup.{lookup}
use Rattle.tables.proofs.LookupLaws.{lookup_cases}
use Rattle.wellformed.specs.facts.Rules.{TableRule}
use Rattle.lookup.specs.facts.Finds.{Match, KeepsSeven, LowestInside, Finds, FindsIn}

module _ (b : Board) (i : ℕ) (key : List ℕ) where
  -- a property is a match, and a match that keeps rule 7 is a property
  is_match : {k : ℕ} → Property b i key k → Match b i key k
  is_match h = record { inside = h.inside; node = h.node; name = h.name }

  is_property_lem : {k : ℕ} → KeepsSeven b k → Match b i key k → Property b i key k
  is_property_lem {k} keeps h =
      record {
        inside = h.inside;
        node = h.node;
        range =
            ⊎_elim (λ out. absurd (keeps (TableRule.property_name_range k h.inside (λ le. omega (arith, le, out))))) (λ le. le)
            (lt_or_le (length b.pool) (key_offset b.props k + key_length b.props k));
        name = h.name;
      }

  lowest_property : {k : ℕ} → KeepsSeven b k → Lowest (Match b i key) k → Lowest (Property b i key) k
  lowest_property keeps h = record { holds = is_property_lem keeps h.holds; none_lower = λ j lt p. h.none_lower j lt (is_match p) }

  found_match : {k : ℕ} {answer : Option Found} → LowestInside b i key answer → Lowest (Property b i key) k → answer ≡ Some (found_at b.props k)
  found_match (LowestInside.found h) g = ap (λ k. Some (found_at b.props k)) (lowest_unique h g)
  found_match {k} (LowestInside.missing none) g = absurd (none k g.holds)

  found_none : {answer : Option Found} → LowestInside b i key answer → (answer ≡ None) ↔ ((k : ℕ) → Property b i key k → ⊥)
  found_none (LowestInside.found {k} h) = ((λ e. let z : ◌≡◌ {A = ℕ} 0 1 = cc in omega arith), λ none. absurd (none k h.holds))
  found_none (LowestInside.missing none) = ((λ _. none), λ _. refl)

  -- there is one such answer
  pub inside_unique : {answer other : Option Found} → LowestInside b i key answer → LowestInside b i key other → answer ≡ other
  inside_unique h (LowestInside.found g) = found_match h g
  inside_unique h (LowestInside.missing none) = (found_none h).1 none

  pub inside_finds : {answer : Option Found} → LowestInside b i key answer → Finds b i key answer
  inside_finds h =
      record {
        match = λ k low keeps. found_match h (lowest_property (keeps k (omega arith)) low);
        missing =
            λ keeps.
            let e = found_none h in
            ((λ m k g. e.0 m k (is_property_lem (keeps k) g)), λ none. e.1 (λ k p. none k (is_match p)));
        left_free = h;
      }

  pub lookup_inside : LowestInside b i key (lookup b.props b.pool i key)
  lookup_inside =
      ⊎_elim (λ t. rw t.1 (LowestInside.found t.2)) (λ t. rw t.0 (LowestInside.missing t.1)) (lookup_cases b i key)

-- what equals the definition meets the contract
pub lookup_meets :
    (props pool : List ℕ) (i : ℕ) (key : List ℕ) {answer : Option Found} →
    answer ≡ lookup props pool i key →
    (answer ≡ lookup props pool i key) × FindsIn props pool i key answer
lookup_meets props pool i key e = (
  e,
  λ width nodes.
      let b = board width nodes props pool in
      rw e (inside_finds b i key (lookup_inside b i key)),
)
