-- SPDX-License-Identifier: BSD-2-Clause OR GPL-2.0-or-later
-- What the checks of rules 9 to 13, 36 and 37, and of rule 17 answer.
use Rattle.std.specs.Prelude.{Bool, true, false, cond, List, map, ℕ, ltb, eqb, Some, None, Option}
use Rattle.laws.specs.facts.Told.{Fault}
use Rattle.laws.specs.answers.Search.{count_below, list_below}
use Rattle.laws.specs.facts.Limits.{max_cpus}
use Rattle.laws.specs.answers.Fault.{told, or_else, with_second}
use Rattle.tables.specs.facts.Binding.{cpus_word, cpu_word, cpu_unit, address_cells_key, size_cells_key}
use Rattle.tables.specs.answers.Lookup.{lookup, record_of}
use Rattle.tables.specs.answers.Range.{range_is}
use Rattle.tables.specs.facts.Board.{Board, arm64, node_count, name_offset, name_length}
use Rattle.tables.specs.answers.Tree.{is_child}
use Rattle.cpus.specs.declared.Cells.TheVariants.{One, Two}
use Rattle.cpus.specs.facts.Told.{RootReading}
use Rattle.cpus.specs.declared.Cells.{Cells}
use Rattle.cpus.specs.declared.CpuNumbers.TheVariants.{Regs, Phandles}
use Rattle.cpus.specs.facts.Told.{CpuReading}
use Rattle.cpus.specs.answers.Cell.{cell_of, is_number}
use Rattle.cpus.specs.answers.Numbers.{reading_of, first_record}

-- whether the name of record i is `cpu` or begins `cpu@`
unfoldable pub is_cpu_name : List ℕ → ℕ → ℕ → Bool
is_cpu_name pool offset len = cond (range_is pool offset len cpu_word) true (cond (ltb len 4) false (range_is pool offset 4 cpu_unit))

unfoldable pub is_cpu : List ℕ → List ℕ → ℕ → Bool
is_cpu nodes pool i = cond (is_child nodes 0 i) (is_cpu_name pool (name_offset nodes i) (name_length nodes i)) false

-- what `#address-cells` gives a board of a width: one cell, or on 64-bit ARM two
abbrev pub cells_for : ℕ → Option ℕ → Option Cells
cells_for width (Some n) = cond (eqb n 1) (Some One) (cond (eqb n 2) (cond (eqb width arm64) (Some Two) None) None)
cells_for width None = None

unfoldable pub address_cells : Board → Option Cells
address_cells b = cells_for b.width (cell_of b.props b.pool 0 address_cells_key)

-- the cells of the board's `reg`s; one where rule 36 is broken: what is read by it is then not told
abbrev pub cells_of : Option Cells → Cells
cells_of (Some cells) = cells
cells_of None = One

abbrev pub reg_cells : Board → Cells
reg_cells b = cells_of (address_cells b)

-- rules 9, 36 and 37, each its number or 0
abbrev pub name_fault : Board → ℕ
name_fault b = cond (range_is b.pool (name_offset b.nodes 0) (name_length b.nodes 0) cpus_word) 0 9

abbrev pub address_fault : Option Cells → ℕ
address_fault (Some cells) = 0
address_fault None = 36

abbrev pub size_fault : Option ℕ → ℕ
size_fault value = cond (is_number value 0) 0 37

-- what is told of record 0, of its property `key`
abbrev pub told_of_root : Board → ℕ → List ℕ → Fault
told_of_root b number key = with_second (λ i. record_of (lookup b.props b.pool i key)) (told number 0)

-- the first of rules 9, 36 and 37 that is broken
unfoldable pub root_fault : Board → Fault
root_fault b =
    or_else (told (name_fault b) 0)
    (or_else (told_of_root b (address_fault (address_cells b)) address_cells_key)
    (told_of_root b (size_fault (cell_of b.props b.pool 0 size_cells_key)) size_cells_key))

-- what is read of record 0
abbrev pub root_reading : Board → RootReading
root_reading b = record { fault = root_fault b; cells = reg_cells b }

abbrev pub cpu_count : Board → ℕ
cpu_count b = count_below (is_cpu b.nodes b.pool) (node_count b.nodes)

-- rule 10
abbrev pub count_fault : ℕ → ℕ
count_fault n = cond (eqb n 0) 10 (cond (ltb max_cpus n) 10 0)

-- the cpu records, rising
abbrev pub cpu_list : Board → List ℕ
cpu_list b = list_below (is_cpu b.nodes b.pool) (node_count b.nodes)

-- the readings of the records, looked up in the property table: their `reg`s, and their phandles
abbrev pub reg_readings : Board → ℕ → CpuReading
reg_readings b = reading_of (Regs (reg_cells b) b.width) b.props b.pool

abbrev pub phandle_readings : Board → ℕ → CpuReading
phandle_readings b = reading_of Phandles b.props b.pool

abbrev pub reg_at : Board → ℕ → ℕ
reg_at b i = (reg_readings b i).value

-- the MPIDRs or hart ids of the cpu records
abbrev pub reg_list : Board → List ℕ
reg_list b = map (reg_at b) (cpu_list b)

-- the first of rules 11 to 13 that a cpu record breaks
abbrev pub cpu_fault : Board → Fault
cpu_fault b = first_record (reg_readings b) 13 (cpu_list b)

-- the first of rules 9 to 13, 36 and 37 that is broken
unfoldable pub cpus_fault : Board → Fault
cpus_fault b = or_else (root_fault b) (or_else (told (count_fault (cpu_count b)) 0) (cpu_fault b))

-- the first cpu record that breaks rule 17
abbrev pub phandles_fault : Board → Fault
phandles_fault b = first_record (phandle_readings b) 17 (cpu_list b)

-- the phandles of the cpu records
abbrev pub phandle_list : Board → List ℕ
phandle_list b = map (λ i. (phandle_readings b i).value) (cpu_list b)
