-- SPDX-License-Identifier: BSD-2-Clause OR GPL-2.0-or-later
-- Reading a property's value as a number of one cell or of two.
use Rattle.std.specs.Prelude.{Bool, true, false, cond, List, ℕ, ◌+◌, ◌*◌, ◌^◌, eqb, leb, length, Some, None, Option}
use Rattle.affinity.specs.answers.Level.{is_affine}
use Rattle.tables.specs.declared.Found.{Found}
use Rattle.tables.specs.facts.Board.{riscv}
use Rattle.tables.specs.facts.Property.{cell_at}
use Rattle.tables.specs.answers.Lookup.{lookup}
use Rattle.cpus.specs.declared.Cells.{Cells}
use Rattle.cpus.specs.declared.Cells.TheVariants.{One, Two}

-- the bytes of one cell, or of two
abbrev pub size_of : Cells → ℕ
size_of One = 4
size_of Two = 8

-- whether the value of a property that was found lies inside the pool and has a length
abbrev pub value_sized : List ℕ → ℕ → Found → Bool
value_sized pool len found = cond (eqb found.len len) (leb (found.offset + len) (length pool)) false

-- the number of the cells from `at` on: the only cell, or the upper and the lower
abbrev pub cells_at : List ℕ → Cells → ℕ → ℕ
cells_at pool One at = cell_at pool at
cells_at pool Two at = cell_at pool at * 2 ^ 32 + cell_at pool (at + 4)

-- the number that is the value of a property, if it was found and has so many cells
abbrev pub value_in : List ℕ → Cells → Option Found → Option ℕ
value_in pool cells (Some found) = cond (value_sized pool (size_of cells) found) (Some (cells_at pool cells found.offset)) None
value_in pool cells None = None

abbrev pub cell_in : List ℕ → Option Found → Option ℕ
cell_in pool found = value_in pool One found

-- the cell that is the value of record i's property `key`
unfoldable pub cell_of : List ℕ → List ℕ → ℕ → List ℕ → Option ℕ
cell_of props pool i key = cell_in pool (lookup props pool i key)

-- whether a value is a given number
abbrev pub is_number : Option ℕ → ℕ → Bool
is_number (Some n) number = eqb n number
is_number None number = false

-- whether a number may be a `reg` on a board of a width: a hart id always, an MPIDR with affinity bits alone
unfoldable pub is_reg : ℕ → ℕ → Bool
is_reg width n = cond (eqb width riscv) true (is_affine n)

abbrev pub reg_in : ℕ → Option ℕ → Option ℕ
reg_in width (Some n) = cond (is_reg width n) (Some n) None
reg_in width None = None

-- a phandle: neither 0 nor 0xFFFFFFFF
abbrev pub phandle_in : Option ℕ → Option ℕ
phandle_in (Some h) = cond (eqb h 0) None (cond (eqb h 0xFFFFFFFF) None (Some h))
phandle_in None = None

-- `cpu` and one zero byte, as a cell
abbrev pub cpu_cell : ℕ
cpu_cell = 0x63707500
