-- SPDX-License-Identifier: BSD-2-Clause OR GPL-2.0-or-later
-- What the lookup of a property answers. Assumes nothing.
use Rattle.std.specs.Prelude.{None, Option, Some}
use Rattle.tables.specs.declared.Found.{Found}
use mathlib.Core.Path.{◌≡◌, refl}
use mathlib.Core.Bool.{Bool, true, false, cond}
use mathlib.Core.Logic.{◌⊎◌, inl, inr}
use mathlib.Core.List.{List}
use Prim.Native.Nat.{ℕ, ◌+◌, ◌<◌}
use native.Mathlib.Omega.{arith}
use lib.Dec.{ltb, leb, eqb}
use lib.ListN.{length}
use borrow.Author.Tests.{le-leb, leb-true, eq-eqb, eqb-true, ltb-true, ltb-false}
use Rattle.laws.specs.facts.Lowest.{Lowest}
use Rattle.laws.specs.answers.Search.{lowest}
use Rattle.laws.proofs.SearchLaws.{true_false, lowest_below, lowest_passes}
use Rattle.laws.proofs.SameLaws.{same_refl, same_equal}
use Rattle.laws.proofs.TestLaws.{both_true}
use Rattle.tables.specs.facts.Board.{Board, Inside, range, prop_count, prop_node, key_offset, key_length}
use Rattle.tables.specs.answers.Range.{range_is}
use Rattle.tables.specs.facts.Property.{Property, found_at}
use Rattle.tables.specs.answers.Lookup.{is_property, lookup}

-- the test of a range of the pool
module _ (pool : List ℕ) (offset len : ℕ) (bytes : List ℕ) where
  pub range_is_true : range_is pool offset len bytes ≡ true → (Inside pool offset len) × (range pool offset len ≡ bytes)
  unfolding range_is
  range_is_true h =
      let t = both_true (leb (offset + len) (length pool)) h in
      (leb-true (offset + len) (length pool) t.0, same_equal (range pool offset len) bytes t.1)

  pub true_range_is : Inside pool offset len → range pool offset len ≡ bytes → range_is pool offset len bytes ≡ true
  unfolding range_is
  true_range_is h e = rw (le-leb (offset + len) (length pool) h, e) (same_refl bytes)

module _ (b : Board) (i : ℕ) (key : List ℕ) where
  -- the test of a property record
  is_property_true : (k : ℕ) → is_property b.props b.pool i key k ≡ true → k < prop_count b.props → Property b i key k
  unfolding is_property
  is_property_true k h lt =
      let t = both_true (eqb (prop_node b.props k) i) h in
      let r = range_is_true b.pool (key_offset b.props k) (key_length b.props k) key t.1 in
      record { inside = lt; node = eqb-true (prop_node b.props k) i t.0; range = r.0; name = r.1 }

  true_is_property : (k : ℕ) → Property b i key k → is_property b.props b.pool i key k ≡ true
  unfolding is_property
  true_is_property k h =
      rw (eq-eqb (prop_node b.props k) i h.node)
      (true_range_is b.pool (key_offset b.props k) (key_length b.props k) key h.range h.name)

  abbrev test : ℕ → Bool
  test = is_property b.props b.pool i key

  abbrev count : ℕ
  count = prop_count b.props

  abbrev found : ℕ
  found = lowest test count

  -- what the lookup answers, on any tables: the lowest record that matches, or that none does
  abbrev pub Answers : Option Found → Type 0
  Answers l =
      ((k : ℕ) × (l ≡ Some (found_at b.props k)) × Lowest (Property b i key) k) ⊎ ((l ≡ None) × ((k : ℕ) → Property b i key k → ⊥))

  pub lookup_cases : Answers (lookup b.props b.pool i key)
  unfolding lookup
  lookup_cases = go (ltb found count) refl
    where
      at_found : ltb found count ≡ true → Lowest (Property b i key) found
      at_found e =
          record {
            holds = is_property_true found (lowest_passes test count (ltb-true _ _ e)) (ltb-true _ _ e);
            none_lower = λ j lt h. true_false (true_is_property j h) (lowest_below test count j lt);
          }

      go : (t : Bool) → ltb found count ≡ t → Answers (cond t (Some (found_at b.props found)) None)
      go true e = inl (found, refl, at_found e)
      go false e =
          inr (refl, λ k h. true_false (true_is_property k h) (lowest_below test count k (omega (arith, h.inside, ltb-false found count e))))
