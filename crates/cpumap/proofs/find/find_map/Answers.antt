-- SPDX-License-Identifier: BSD-2-Clause OR GPL-2.0-or-later
-- `find_map` meets its contract: rule 15, then rule 16. Assumes nothing.
use mathlib.Core.Path.{◌≡◌, sym}
use Prim.Native.Nat.{◌<◌}
use Rattle.std.proofs.lemmas.Result.{err_from_is_err_and}
use Rattle.tables.specs.facts.Board.{node_count}
use Rattle.cpumap.specs.answers.Find.{map_of}
use Rattle.cpumap.proofs.CodeLaws.{map_none, map_some, map_second, map_found}
use Rattle.cpumap.proofs.find.find_map.Goals as goal
use Rattle.cpumap.proofs.find.find_map.Goals.{In_ok-map}

-- the map that is found
found :
    (c : In_ok-map) →
    let table = c.args.tables.now.nodes.now in
    (c.in_ok-map.map ≡ map_of table c.args.tables.now.pool.now) × (c.in_ok-map.map < node_count table)
found c = map_some _ _ c.lowest_map.result c.lowest_map.ensures.map c.lowest_map.ensures.within (sym c.in_ok-map.ensures.value)

pub returns-in_err-map : goal.returns-in_err-map
returns-in_err-map c =
    let p = err_from_is_err_and c.from_residual.result c.from_residual.ensures.1 in
    rw (p.1, p.2) (map_none _ _ c.lowest_map.result c.lowest_map.ensures.map (sym c.in_err-map.ensures.value))

pub returns-in_err-second_map : goal.returns-in_err-second_map
returns-in_err-second_map c =
    let p = err_from_is_err_and c.from_residual-in_err-second_map.result c.from_residual-in_err-second_map.ensures.1 in
    rw (p.1, p.2) (map_second _ _ c.in_err-second_map.field-0.0 (found (goal.at.returns-in_err-second_map c).In_ok-map) c.in_err-second_map.ensures)

pub returns : goal.returns
returns c = map_found _ _ (found (goal.at.returns c).In_ok-map) c.in_ok-second_map.ensures
