-- SPDX-License-Identifier: BSD-2-Clause OR GPL-2.0-or-later
-- The shape of any record: the smallest broken one of rules 18 to 23, and whether the record is a leaf.
-- Assumes well-formed tables and no topology name of record 0 for the number told.
use mathlib.Core.Path.{◌≡◌, refl}
use mathlib.Core.Bool.{Bool, true, false, cond}
use Prim.Native.Nat.{ℕ, ◌<◌}
use native.Mathlib.Omega.{arith}
use lib.Dec.{eqb}
use Rattle.laws.proofs.SearchLaws.{true_false}
use Rattle.laws.proofs.DecideLaws.{eq_decides}
use Rattle.laws.proofs.TestedLaws.{Decided, decide_cases}
use Rattle.laws.proofs.FirstLaws.{Smallest}
use Rattle.names.specs.declared.TopologyName.{TopologyName}
use Rattle.names.specs.facts.Kind.{Kind}
use Rattle.tables.specs.facts.Board.{Board, node_count}
use Rattle.wellformed.specs.facts.Order.{stage}
use Rattle.wellformed.specs.facts.Rules.{WellFormed}
use Rattle.cpumap.specs.facts.Map.{Map, InMap, Outside, OfKind}
use Rattle.cpumap.specs.answers.Path.{topology_name}
use Rattle.cpumap.specs.answers.Number.{kind_number}
use Rattle.cpumap.proofs.MapMeans.{in_map_test, in_map_later, outside_is, outside_not_below}
use Rattle.topology.specs.facts.Told.{RecordShape}
use Rattle.topology.specs.facts.Rules.{TopologyRule}
use Rattle.topology.specs.answers.Check.{group_fault, is_leaf_name, map_record_fault, shape, map_record_shape, record_shape}
use Rattle.topology.proofs.RecordMeans.{record_told}
use Rattle.topology.proofs.PlaceMeans.{root_told, below_told, map_told, outside_told}

module _ (b : Board) {m : ℕ} (map : Map b m) where
  abbrev name : ℕ → TopologyName
  name i = topology_name b.nodes b.pool i

  abbrev shape_at : ℕ → RecordShape
  shape_at i = record_shape b.nodes b.pool m i

  abbrev fault : ℕ → ℕ
  fault i = map_record_fault b.nodes b.pool m i (name i)

  abbrev outside_number : ℕ → ℕ
  outside_number i = cond (eqb (kind_number (name i)) 0) 0 18

  -- the shape of a record, by where it stands
  data Shaped (i : ℕ) : RecordShape → Type 0 where
    top : i ≡ 0 → Shaped i (shape 0 false)
    the_map : i ≡ m → Shaped i (shape (group_fault b.nodes i) false)
    outside : 0 < i → Outside b i → Shaped i (shape (outside_number i) false)
    misshapen : InMap b i → (fault i ≡ 0 → ⊥) → Shaped i (shape (fault i) false)
    sound : InMap b i → fault i ≡ 0 → Shaped i (shape 0 (is_leaf_name b.nodes i (name i)))

  shaped : (i : ℕ) → Shaped i (shape_at i)
  unfolding record_shape map_record_shape
  shaped i =
      go (decide_cases (eq_decides i 0)) (decide_cases (eq_decides i m)) (decide_cases (in_map_test b m map i))
      (decide_cases (eq_decides (fault i) 0))
    where
      go :
          {x y z w : Bool} →
          Decided (i ≡ 0) x →
          Decided (i ≡ m) y →
          Decided (InMap b i) z →
          Decided (fault i ≡ 0) w →
          Shaped i
          (cond x (shape 0 false)
          (cond y (shape (group_fault b.nodes i) false)
          (cond z (cond w (shape 0 (is_leaf_name b.nodes i (name i))) (shape (fault i) false)) (shape (outside_number i) false))))
      go (Decided.holds e) _ _ _ = Shaped.top e
      go (Decided.fails _) (Decided.holds e) _ _ = Shaped.the_map e
      go (Decided.fails n) (Decided.fails k) (Decided.fails t) _ = Shaped.outside (omega arith) (outside_is b m map i k t)
      go (Decided.fails _) (Decided.fails _) (Decided.holds t) (Decided.holds z) = Shaped.sound t z
      go (Decided.fails _) (Decided.fails _) (Decided.holds t) (Decided.fails z) = Shaped.misshapen t z

  -- a leaf is below the map, has a leaf's name, and breaks none of the rules
  pub leaf_shape : (i : ℕ) → (shape_at i).leaf ≡ true → InMap b i × ((shape_at i).number ≡ 0) × (is_leaf_name b.nodes i (name i) ≡ true)
  leaf_shape i = go (shaped i)
    where
      go : {s : RecordShape} → Shaped i s → s.leaf ≡ true → InMap b i × (s.number ≡ 0) × (is_leaf_name b.nodes i (name i) ≡ true)
      go (Shaped.top _) h = true_false h refl
      go (Shaped.the_map _) h = true_false h refl
      go (Shaped.outside _ _) h = true_false h refl
      go (Shaped.misshapen _ _) h = true_false h refl
      go (Shaped.sound t _) h = (t, refl, h)

  -- and a record below the map that breaks none of them is a leaf by its name
  pub sound_shape : (i : ℕ) → InMap b i → (shape_at i).number ≡ 0 → (fault i ≡ 0) × ((shape_at i).leaf ≡ is_leaf_name b.nodes i (name i))
  sound_shape i t = go (shaped i)
    where
      go : {s : RecordShape} → Shaped i s → s.number ≡ 0 → (fault i ≡ 0) × (s.leaf ≡ is_leaf_name b.nodes i (name i))
      go (Shaped.top e) _ = absurd (omega (arith, in_map_later b m map i t))
      go (Shaped.the_map e) _ = absurd (omega (arith, in_map_later b m map i t))
      go (Shaped.outside _ out) _ = absurd (outside_not_below b m map i out t)
      go (Shaped.misshapen _ n) z = absurd (n z)
      go (Shaped.sound _ z) _ = (z, refl)

  -- the number told of a record, where none is told of the records before it
  module _ (well : WellFormed b) (nameless : (kind : Kind) → OfKind b kind 0 → ⊥) where
    pub shape_told :
        (i : ℕ) →
        i < node_count b.nodes →
        ((k : ℕ) → k < i → (shape_at k).number ≡ 0) →
        Smallest stage (TopologyRule b) (stage 18) i (shape_at i).number
    shape_told i lt lower = go (shaped i)
      where
        below : InMap b i → Smallest stage (TopologyRule b) (stage 18) i (fault i)
        below t = below_told b m map t (record_told b well nameless m map i t (λ k l s. (sound_shape k s (lower k l)).0))

        go : {s : RecordShape} → Shaped i s → Smallest stage (TopologyRule b) (stage 18) i s.number
        go (Shaped.top e) = rw e (root_told b m map)
        go (Shaped.the_map e) = rw e (map_told b well m map)
        go (Shaped.outside pos out) = outside_told b well m map i pos lt out
        go (Shaped.misshapen t _) = below t
        go (Shaped.sound t z) = rw z at (below t)
