-- SPDX-License-Identifier: BSD-2-Clause OR GPL-2.0-or-later
-- `lowest_map` meets its contract: the search finds the lowest record that is the map. Assumes nothing.
use mathlib.Core.Path.{◌≡◌}
use mathlib.Core.Bool.{true, false}
use Prim.Native.Nat.{ℕ}
use Rattle.std.proofs.Common.{rules}
use Rattle.std.proofs.lemmas.Iterator.{first_from_Range}
use Rattle.tables.specs.facts.Board.{node_count}
use Rattle.cpumap.specs.answers.Find.{is_map, map_of}
use Rattle.cpumap.proofs.CodeLaws.{lowest_found}
use Rattle.cpumap.proofs.find.lowest_map.Goals as goal

pub returns-clause-map : goal.returns-clause-map
unfolding map_of
returns-clause-map c =
    let nodes = c.args.tables.now.nodes.now in
    let pool = c.args.tables.now.pool.now in
    lowest_found (is_map nodes pool) (node_count nodes) c.find.result
    (first_from_Range _ _ _ c.find.result (λ (k : ℕ). is_map nodes pool k ≡ true) (λ (k : ℕ). is_map nodes pool k ≡ false) c.find.ensures.ran
    (λ x q k. search rules) (λ x q k. search rules))
