-- SPDX-License-Identifier: BSD-2-Clause OR GPL-2.0-or-later
-- `blocks_fault` meets its contract: its tests are those of `places_fault`, in the same order. Assumes nothing.
use mathlib.Core.Path.{sym, subst}
use Prim.Native.Nat.{ℕ, ◌^◌, ◌<◌}
use native.Mathlib.Omega.{arith}
use Rattle.std.proofs.lemmas.Grind.{common_steps}
use Rattle.tables.specs.facts.Property.{cell_at}
use Rattle.tables.proofs.CellLaws.{cell_lt}
use Rattle.header.specs.declared.BlockPlaces.{BlockPlaces}
use Rattle.header.specs.answers.Fault.{blocks_fault}
use Rattle.header.proofs.blocks.blocks_fault.Goals as goal
use Rattle.header.proofs.blocks.blocks_fault.Goals.{After-block_places-found}

-- a place is a cell
small :
    (c : After-block_places-found) →
    let p = c.block_places-found.result in
    (p.start < 2 ^ 32) × (p.size < 2 ^ 32) × (p.strings < 2 ^ 32) × (p.names < 2 ^ 32)
small c =
    let blob = c.args.blob.now in
    let word : (at : ℕ) → cell_at blob at < 2 ^ 32 = λ at. cell_lt blob at (λ k. omega (arith, c.type_inv.blob k)) in
    subst (λ (p : BlockPlaces). (p.start < 2 ^ 32) × (p.size < 2 ^ 32) × (p.strings < 2 ^ 32) × (p.names < 2 ^ 32))
    (sym c.block_places-found.ensures)
    (word 8, word 36, word 12, word 32)

pub overflow_add-found : goal.overflow_add-found
overflow_add-found c = let s = small (goal.at.overflow_add-found c).After-block_places-found in omega (arith, s.0, s.1)

pub overflow_add-found-else-total-found : goal.overflow_add-found-else-total-found
overflow_add-found-else-total-found c =
    let s = small (goal.at.overflow_add-found-else-total-found c).After-block_places-found in omega (arith, s.2, s.3)

pub returns-then-total-found : goal.returns-then-total-found
unfolding blocks_fault
returns-then-total-found c = grind (arith, common_steps)

pub returns : goal.returns
unfolding blocks_fault
returns c = grind (arith, common_steps)
