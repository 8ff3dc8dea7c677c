-- SPDX-License-Identifier: BSD-2-Clause OR GPL-2.0-or-later
-- Where the map is, and the records below and outside it. Assumes well-formed tables.
use mathlib.Core.Path.{◌≡◌, ◌∙◌}
use mathlib.Core.Bool.{Bool}
use mathlib.Core.Logic.{⊎_elim}
use mathlib.Core.List.{List}
use Prim.Native.Nat.{ℕ, ◌≤◌, ◌<◌}
use native.Mathlib.Nat.{le_antisymm}
use native.Mathlib.Omega.{arith}
use Rattle.laws.specs.answers.Search.{lowest}
use Rattle.laws.proofs.SearchLaws.{true_false, lt_or_le, lowest_below, lowest_passes}
use Rattle.laws.proofs.DecideLaws.{Decides, decides_as, then_decides}
use Rattle.tables.specs.facts.Board.{Board, node_count, node_name, name_offset, name_length}
use Rattle.tables.specs.answers.Tree.{is_below}
use Rattle.tables.specs.facts.Tree.{Child, Ancestor}
use Rattle.wellformed.specs.facts.Rules.{WellFormed}
use Rattle.tables.proofs.DepthLaws.{below_test, ancestor_earlier, ancestor_inside}
use Rattle.wellformed.proofs.WellFormedLaws.{wf_name}
use Rattle.tables.proofs.DecideLaws.{child_test, range_test}
use Rattle.tables.specs.facts.Binding.{map_word}
use Rattle.cpumap.specs.facts.Map.{Map, InMap, Outside}
use Rattle.cpumap.specs.answers.Find.{is_map_name, is_map, map_of}

-- the ancestor test decides the relation
pub ancestor_test : (nodes : List ℕ) (a i : ℕ) → Decides (is_below nodes i a) (Ancestor nodes a i)
ancestor_test nodes a i = below_test a i

-- a record below the map is a record
pub in_map_inside : {b : Board} {i : ℕ} → InMap b i → i < node_count b.nodes
in_map_inside s = ancestor_inside s.below

-- there is at most one map
pub map_unique : (b : Board) (m k : ℕ) → Map b m → Map b k → m ≡ k
map_unique b m k s t = le_antisymm (s.lowest k t.child t.name) (t.lowest m s.child s.name)

module _ (b : Board) (m : ℕ) (map : Map b m) where
  -- below the map
  pub in_map_test : (i : ℕ) → Decides (is_below b.nodes i m) (InMap b i)
  in_map_test i =
      decides_as (ancestor_test b.nodes m i)
      (λ t. record { root = m; is_map = map; below = t })
      (λ t. rw (map_unique b t.root m t.is_map map) at t.below)

  pub in_map_below : (i : ℕ) → InMap b i → Ancestor b.nodes m i
  in_map_below i t = (ancestor_test b.nodes m i).0 ((in_map_test i).1 t)

  -- outside the map
  pub outside_is : (i : ℕ) → (i ≡ m → ⊥) → (InMap b i → ⊥) → Outside b i
  outside_is i ne none =
      record { root = m; is_map = map; not_map = ne; not_below = λ a. none (record { root = m; is_map = map; below = a }) }

  pub outside_not_map : (i : ℕ) → Outside b i → i ≡ m → ⊥
  outside_not_map i t e = t.not_map (e ∙ map_unique b m t.root map t.is_map)

  pub outside_not_below : (i : ℕ) → Outside b i → InMap b i → ⊥
  outside_not_below i t s = t.not_below (rw (map_unique b m t.root map t.is_map) at (in_map_below i s))

  pub in_map_later : (i : ℕ) → InMap b i → m < i
  in_map_later i t = ancestor_earlier (in_map_below i t)

  pub map_not_below : InMap b m → ⊥
  map_not_below t = let l = in_map_later m t in omega arith

module _ (b : Board) (well : WellFormed b) where
  pub map_name_test : (i : ℕ) → i < node_count b.nodes → Decides (is_map_name b.nodes b.pool i) (node_name b i ≡ map_word)
  unfolding is_map_name
  map_name_test i lt = range_test b.pool (name_offset b.nodes i) (name_length b.nodes i) map_word (wf_name well i lt).inside

  abbrev test : ℕ → Bool
  test = is_map b.nodes b.pool

  pub map_test : (i : ℕ) → Decides (is_map b.nodes b.pool i) (Child b.nodes 0 i × (node_name b i ≡ map_word))
  unfolding is_map
  map_test i = then_decides (child_test b.nodes 0 i) (λ c. map_name_test i c.inside)

  -- the search finds the map, where there is one
  pub map_of_lem : map_of b.nodes b.pool < node_count b.nodes → Map b (map_of b.nodes b.pool)
  unfolding map_of
  map_of_lem lt =
      let found = (map_test (lowest test (node_count b.nodes))).0 (lowest_passes test (node_count b.nodes) lt) in
      record { child = found.0; name = found.1; lowest = first }
    where
      first : (i : ℕ) → Child b.nodes 0 i → node_name b i ≡ map_word → lowest test (node_count b.nodes) ≤ i
      first i c e =
          ⊎_elim
          (λ l. true_false ((map_test i).1 (c, e)) (lowest_below test (node_count b.nodes) i l))
          (λ l. l)
          (lt_or_le i (lowest test (node_count b.nodes)))

  pub map_found : (m : ℕ) → Map b m → map_of b.nodes b.pool < node_count b.nodes
  unfolding map_of
  map_found m s =
      ⊎_elim
      (λ l. l)
      (λ l.
      true_false
      ((map_test m).1 (s.child, s.name))
      (lowest_below test (node_count b.nodes) m (omega (arith, s.child.inside))))
      (lt_or_le (lowest test (node_count b.nodes)) (node_count b.nodes))

  pub map_is : (m : ℕ) → Map b m → m ≡ map_of b.nodes b.pool
  map_is m s = map_unique b m (map_of b.nodes b.pool) s (map_of_lem (map_found m s))

  pub no_map : node_count b.nodes ≤ map_of b.nodes b.pool → (m : ℕ) → Map b m → ⊥
  no_map le m s = let lt = map_found m s in omega arith
