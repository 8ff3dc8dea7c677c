-- SPDX-License-Identifier: BSD-2-Clause OR GPL-2.0-or-later
-- The search for a property: what one record more shows, and what is found. Assumes nothing.
use Rattle.std.specs.Prelude.{None, Some}
use mathlib.Core.Path.{◌≡◌, refl, sym, ap, ◌∙◌}
use mathlib.Core.Bool.{true}
use mathlib.Core.List.{List}
use Prim.Native.Nat.{ℕ, ◌<◌}
use native.Mathlib.Omega.{arith}
use borrow.Author.Tests.{lt-ltb, le-ltb}
use Rattle.laws.specs.answers.Search.{lowest}
use Rattle.laws.proofs.SearchLaws.{lowest_at}
use Rattle.tables.specs.facts.Board.{prop_count}
use Rattle.tables.specs.facts.Property.{found_at}
use Rattle.tables.specs.answers.Lookup.{is_property, found_below, lookup}

module _ (props pool : List ℕ) (node : ℕ) (key : List ℕ) where
  -- none of the first k records is a property of that node and name
  pub none_yet : lowest (is_property props pool node key) 0 ≡ 0
  unfolding lowest
  none_yet = refl

  pub found_at_lem :
      (k : ℕ) →
      lowest (is_property props pool node key) k ≡ k →
      is_property props pool node key k ≡ true →
      k < prop_count props →
      Some (found_at props k) ≡ lookup props pool node key
  unfolding lookup
  found_at_lem k none test lt =
      let e : found_below props (prop_count props) k ≡ Some (found_at props k) = rw (lt-ltb k (prop_count props) lt) in
      let found = lowest_at (is_property props pool node key) k (prop_count props) lt none test in
      sym e ∙ ap (found_below props (prop_count props)) found

  pub found_none : (k : ℕ) → k ≡ prop_count props → lowest (is_property props pool node key) k ≡ k → None ≡ lookup props pool node key
  unfolding lookup
  found_none k all none =
      let e : lowest (is_property props pool node key) (prop_count props) ≡ prop_count props = rw all at none in
      rw (e, le-ltb (prop_count props) (prop_count props) (omega arith))
