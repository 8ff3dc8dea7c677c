-- SPDX-License-Identifier: BSD-2-Clause OR GPL-2.0-or-later
-- The second place of what is told of the map's records and its leaves. Assumes nothing.
use mathlib.Core.Path.{◌≡◌, refl, sym, ap, ◌∙◌}
use mathlib.Core.Bool.{Bool, true, false, cond}
use mathlib.Core.List.{List}
use Prim.Native.Nat.{ℕ, zero, suc}
use native.Mathlib.Omega.{arith}
use lib.ListN.{length, get_or}
use Rattle.laws.specs.facts.First.{has}
use Rattle.laws.specs.facts.Told.{Fault}
use Rattle.laws.specs.answers.Fault.{first_fault, or_number}
use Rattle.laws.specs.answers.Listed.{fault_of_member}
use Rattle.laws.proofs.FaultLaws.{first_is}
use Rattle.tables.specs.facts.Board.{Board, node_count}
use Rattle.tables.specs.facts.Second.{Concerns, Second}
use Rattle.tables.proofs.SecondLaws.{spoken, HasSecond, second_found, first_unspoken, unspoken, told_second, else_second, with_second_lem}
use Rattle.topology.proofs.ShapeNumberLaws.{Range, shape_range}
use Rattle.leaves.specs.facts.Told.{RecordCheck}
use Rattle.leaves.specs.answers.Scan.{Tree, tree_at, check, is_leaf, cpu_of, named_below, tree_fault, record_fault, leaves_fault}
use Rattle.leaves.proofs.CheckCases.{Checked, checked, answers_fault, check_fault}

-- the numbers of the shape of a record speak of no property
shape_unspoken : {v : ℕ} {key : List ℕ} → (v ≡ 0 → ⊥) → Range v → Concerns v key → ⊥
shape_unspoken ne r Concerns.device_type = let low = r.1 ne in omega arith
shape_unspoken ne r Concerns.reg = let low = r.1 ne in omega arith
shape_unspoken ne r Concerns.phandle = let low = r.1 ne in omega arith
shape_unspoken ne r Concerns.cpu = let high = r.0 in omega arith
shape_unspoken ne r Concerns.address_cells = let high = r.0 in omega arith
shape_unspoken ne r Concerns.size_cells = let high = r.0 in omega arith

module _ (b : Board) (m : ℕ) where
  abbrev t : Tree
  t = tree_at b m

  -- what is told of record i
  record_second : (i : ℕ) → (tree_fault t i ≡ 0 → ⊥) → Second b (tree_fault t i) i (check t i).second
  record_second i ne = go (checked t i)
    where
      only : (v : ℕ) → or_number v 0 ≡ v
      only zero = refl
      only (suc v) = refl

      second : (r : RecordCheck) → check t i ≡ r → (check t i).second ≡ r.second
      second r e = ap (λ (x : RecordCheck). x.second) e

      again : (l n : Bool) → has spoken (cond l (cond n 25 0) 0) ≡ false
      again true true = refl
      again true false = refl
      again false n = refl

      go : Checked t i → Second b (tree_fault t i) i (check t i).second
      go (Checked.inner _ a) =
          let e = answers_fault t i _ a ∙ only _ in
          rw (second _ a, e) (Second.none (λ key. shape_unspoken (λ z. ne (e ∙ z)) (shape_range b.nodes b.pool m i)))
      go (Checked.nameless _ _ a) = rw (second _ a, answers_fault t i 24 a) (second_found b i Concerns.cpu)
      go (Checked.leaf _ _ a) =
          let e = check_fault t i (ap (λ (x : RecordCheck). x.number) a) in
          unspoken b i (ap (has spoken) e ∙ again (is_leaf t i) (named_below t i (cpu_of t i))) (second _ a)

  records_second : HasSecond b (record_fault t)
  records_second =
      with_second_lem b (λ i. (check t i).second) (first_fault (tree_fault t) (node_count b.nodes))
      (λ ne.
      let e = ((first_is (tree_fault t) (node_count b.nodes)).found ne).1 in
      rw (← e) (record_second (first_fault (tree_fault t) (node_count b.nodes)).place (λ z. ne (sym e ∙ z))))

  pub leaves_second : (records : List ℕ) → HasSecond b (leaves_fault t records)
  unfolding leaves_fault
  leaves_second records =
      else_second b (record_fault t) (fault_of_member records last) records_second
      (told_second b last.number (get_or records last.place 0)
      (first_unspoken unnamed (length records) (λ k. go (named_below t (node_count b.nodes) k))))
    where
      unnamed : ℕ → ℕ
      unnamed k = cond (named_below t (node_count b.nodes) k) 0 26

      last : Fault
      last = first_fault unnamed (length records)

      go : (named : Bool) → has spoken (cond named 0 26) ≡ false
      go true = refl
      go false = refl
