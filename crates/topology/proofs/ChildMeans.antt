-- SPDX-License-Identifier: BSD-2-Clause OR GPL-2.0-or-later
-- What the tests of children decide. Assumes nothing.
use mathlib.Core.Path.{◌≡◌, sym, ap, ◌∙◌}
use mathlib.Core.Bool.{false}
use mathlib.Core.Logic.{◌↔◌}
use mathlib.Core.List.{List}
use Prim.Native.Nat.{ℕ, ◌+◌}
use native.Mathlib.Numerals.{add-one}
use lib.ListN.{length}
use Rattle.laws.specs.answers.Search.{list_below}
use Rattle.laws.specs.facts.Listing.{Listing}
use Rattle.laws.proofs.SearchLaws.{list_length}
use Rattle.laws.proofs.ListingLaws.{listed, listing_unique}
use Rattle.laws.proofs.DecideLaws.{Decides, decides_as, decides_not}
use Rattle.tables.specs.facts.Board.{node_count}
use Rattle.tables.specs.facts.Tree.{Child}
use Rattle.tables.proofs.DepthLaws.{DepthFirst, first_child}
use Rattle.tables.specs.answers.Tree.{is_child}
use Rattle.tables.proofs.DecideLaws.{child_test}
use Rattle.topology.specs.answers.Check.{has_child}
use Rattle.topology.specs.answers.Siblings.{child_count}

module _ (nodes : List ℕ) where
  -- the children of p, and how many there are
  pub children_listing : (p : ℕ) → Listing (Child nodes p) (list_below (is_child nodes p) (node_count nodes))
  children_listing p =
      listed (is_child nodes p) (node_count nodes)
      (λ j c. (c.inside, (child_test nodes p j).1 c))
      (λ j _ e. (child_test nodes p j).0 e)

  pub children_count : (p : ℕ) (children : List ℕ) → Listing (Child nodes p) children → child_count nodes p ≡ length children
  children_count p children h =
      sym (list_length (is_child nodes p) (node_count nodes))
      ∙ ap length (listing_unique (list_below (is_child nodes p) (node_count nodes)) children (children_listing p) h)

  module _ (depth : DepthFirst nodes) where
    -- in a depth-first table the first child of i is the record after it
    pub has_child_test : (i : ℕ) → Decides (has_child nodes i) ((j : ℕ) × Child nodes i j)
    unfolding has_child
    has_child_test i = decides_as (child_test nodes i (i + 1)) (λ c. (i + 1, c)) (λ t. rw (add-one i) (first_child depth t.1))

    -- no child, as a fact about every record
    pub childless_test : (i : ℕ) → (has_child nodes i ≡ false) ↔ ((j : ℕ) → Child nodes i j → ⊥)
    childless_test i =
        let t = decides_not (has_child_test i) in
        (λ e j c. t.0 e (j, c), λ none. t.1 (λ c. none c.0 c.1))
