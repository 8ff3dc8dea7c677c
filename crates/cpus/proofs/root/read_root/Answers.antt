-- SPDX-License-Identifier: BSD-2-Clause OR GPL-2.0-or-later
-- `read_root` meets its contract: what is checked is the definition's, and the cells are. Assumes nothing.
use Rattle.std.specs.Prelude.{Option, None, Some}
use Rattle.std.specs.Option.{unwrap_or}
use mathlib.Core.Path.{◌≡◌, refl, ap, ◌∙◌}
use Prim.Native.Nat.{ℕ}
use Rattle.tables.specs.declared.Found.{Found}
use Rattle.tables.specs.answers.Lookup.{lookup}
use Rattle.tables.specs.facts.Binding.{address_cells_key}
use Rattle.tables.specs.facts.Board.{Board, board_of}
use Rattle.cpus.specs.declared.Cells.{Cells}
use Rattle.cpus.specs.declared.Cells.TheVariants.{One}
use Rattle.cpus.specs.answers.Check.{address_cells, cells_for, cells_of}
use Rattle.cpus.specs.answers.Cell.{cell_in, cell_of}
use Rattle.cpus.proofs.root.read_root.Goals as goal

cells-or-one : (o : Option Cells) → unwrap_or o One ≡ cells_of o
cells-or-one None = refl
cells-or-one (Some c) = refl

-- what `#address-cells` gives
allowed-read :
    (b : Board) {found : Option Found} {value : Option ℕ} {allowed : Option Cells} →
    found ≡ lookup b.props b.pool 0 address_cells_key →
    value ≡ cell_in b.pool found →
    allowed ≡ cells_for b.width value →
    allowed ≡ address_cells b
unfolding address_cells cell_of
allowed-read b f v a = a ∙ rw (v, f)

pub returns : goal.returns
returns c =
    let b = board_of c.args.width c.args.tables.now in
    let found = c.find_property-address.ensures.answer in
    let allowed = allowed-read b found c.cell_in.ensures c.cells_for-allowed.ensures in
    rw (c.check_root.ensures c.args.width found allowed, c.unwrap_or.ensures ∙ cells-or-one c.cells_for-allowed.result ∙ ap cells_of allowed)
