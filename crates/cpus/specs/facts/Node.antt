-- SPDX-License-Identifier: BSD-2-Clause OR GPL-2.0-or-later
-- Cpu records, and what their properties say.
use Rattle.std.specs.Prelude.{◌≡◌, List, ◌++◌, ◌⊎◌, ℕ, ◌^◌, ◌<◌, ◌+◌, ◌*◌}
use Rattle.tables.specs.facts.Binding.{reg_key, phandle_key, cpu_word, cpu_unit, address_cells_key, size_cells_key}
use Rattle.tables.specs.facts.Tree.{Child}
use Rattle.tables.specs.facts.Board.{Board, arm64, riscv, HasMpidrs, node_name}
use Rattle.tables.specs.facts.Property.{HasValue, cell_bytes}

-- a name that begins with given bytes
pub record Begins (name start : List ℕ) : Type 0 where
  pub rest : List ℕ
  pub whole : name ≡ start ++ rest

-- a cpu record: a child of record 0 named `cpu` or beginning `cpu@`
pub record Cpu (b : Board) (i : ℕ) : Type 0 where
  pub child : Child b.nodes 0 i
  pub name : (node_name b i ≡ cpu_word) ⊎ Begins (node_name b i) cpu_unit

-- how many address cells a board of a width may have: 1, and on 64-bit ARM also 2
pub data CellsAllowed : ℕ → ℕ → Type 0 where
  one : {width : ℕ} → CellsAllowed width 1
  two : CellsAllowed arm64 2

-- `#address-cells` of record 0: four bytes of an allowed value
pub record AddressCells (b : Board) (n : ℕ) : Type 0 where
  pub value : HasValue b 0 address_cells_key (cell_bytes n)
  pub allowed : CellsAllowed b.width n

-- `#size-cells` of record 0: four zero bytes
abbrev pub SizeCells : Board → Type 0
SizeCells b = HasValue b 0 size_cells_key (cell_bytes 0)

-- the only cell of a `reg`: of an MPIDR affinity bits alone, of a hart id any
pub data OnlyCell (b : Board) (cell : ℕ) : Type 0 where
  affinity : HasMpidrs b → cell < 2 ^ 24 → OnlyCell b cell
  hart : b.width ≡ riscv → cell < 2 ^ 32 → OnlyCell b cell

-- `reg` of record i: the upper cell, 0 where there is one address cell, and the lower
pub data Reg (b : Board) (i : ℕ) : ℕ → ℕ → Type 0 where
  one_cell : {lower : ℕ} → AddressCells b 1 → HasValue b i reg_key (cell_bytes lower) → OnlyCell b lower → Reg b i 0 lower
  two_cells :
      {upper lower : ℕ} →
      AddressCells b 2 →
      HasValue b i reg_key (cell_bytes upper ++ cell_bytes lower) →
      upper < 2 ^ 8 →
      lower < 2 ^ 24 →
      Reg b i upper lower

-- the two cells as one number: an MPIDR, or a hart id
abbrev pub reg_number : ℕ → ℕ → ℕ
reg_number upper lower = upper * 2 ^ 32 + lower

-- `phandle` of record i: four bytes, neither 0 nor 0xFFFFFFFF
pub record Phandle (b : Board) (i h : ℕ) : Type 0 where
  pub value : HasValue b i phandle_key (cell_bytes h)
  pub word : h < 2 ^ 32
  pub not_zero : h ≡ 0 → ⊥
  pub not_ones : h ≡ 0xFFFFFFFF → ⊥
