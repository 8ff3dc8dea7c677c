-- SPDX-License-Identifier: BSD-2-Clause OR GPL-2.0-or-later
-- Rules 15 and 16 are told of no property. Assumes nothing.
use mathlib.Core.Path.{◌≡◌, refl}
use mathlib.Core.Bool.{Bool, true, false, cond}
use mathlib.Core.List.{List}
use Prim.Native.Nat.{ℕ}
use lib.Dec.{eqb, ltb}
use Rattle.laws.specs.facts.First.{has}
use Rattle.laws.specs.answers.Fault.{told, first_fault}
use Rattle.tables.specs.facts.Board.{Board, node_count}
use Rattle.tables.proofs.SecondLaws.{spoken, HasSecond, told_second, else_second, first_second}
use Rattle.cpumap.specs.answers.Find.{is_map_name, map_of, no_map_fault, second_map_fault, map_fault}

pub map_second : (b : Board) → HasSecond b (map_fault b.nodes b.pool)
unfolding map_fault second_map_fault
map_second b =
    else_second b (told (no_map_fault nodes pool) 0) (first_fault (second_map_fault nodes pool) (node_count nodes))
    (told_second b (no_map_fault nodes pool) 0 (none (ltb (map_of nodes pool) (node_count nodes))))
    (first_second b (second_map_fault nodes pool) (node_count nodes) (λ i. second (is_map_name nodes pool i) (eqb i (map_of nodes pool))))
  where
    nodes : List ℕ
    nodes = b.nodes

    pool : List ℕ
    pool = b.pool

    none : (t : Bool) → has spoken (cond t 0 15) ≡ false
    none true = refl
    none false = refl

    second : (t s : Bool) → has spoken (cond t (cond s 0 16) 0) ≡ false
    second true true = refl
    second true false = refl
    second false s = refl
