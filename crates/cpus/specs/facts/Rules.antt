-- SPDX-License-Identifier: BSD-2-Clause OR GPL-2.0-or-later
-- Rules 9 to 13, 36 and 37, and rule 17, as facts: each constructor is a way to break a rule of that number at that place.
use Rattle.std.specs.Prelude.{◌≡◌, List, ℕ, ◌<◌, length}
use Rattle.laws.specs.facts.Listing.{Listing}
use Rattle.laws.specs.facts.Limits.{max_cpus}
use Rattle.tables.specs.facts.Binding.{reg_key, device_type_key, cpus_word, cpu_string}
use Rattle.tables.specs.facts.Property.{HasValue}
use Rattle.tables.specs.facts.Board.{Board, node_name}
use Rattle.cpus.specs.facts.Node.{Cpu, AddressCells, SizeCells, Reg, Phandle}

pub data CpuRule (b : Board) : ℕ → ℕ → Type 0 where
  cpus_node_name : (node_name b 0 ≡ cpus_word → ⊥) → CpuRule b 9 0
  cpus_address_cells : ((n : ℕ) → AddressCells b n → ⊥) → CpuRule b 36 0
  cpus_size_cells : (SizeCells b → ⊥) → CpuRule b 37 0
  cpu_count_none : ((i : ℕ) → Cpu b i → ⊥) → CpuRule b 10 0
  cpu_count_many : (cpus : List ℕ) → Listing (Cpu b) cpus → max_cpus < length cpus → CpuRule b 10 0
  cpu_device_type : (i : ℕ) → Cpu b i → (HasValue b i device_type_key cpu_string → ⊥) → CpuRule b 11 i
  cpu_reg : (i : ℕ) → Cpu b i → ((upper lower : ℕ) → Reg b i upper lower → ⊥) → CpuRule b 12 i
  duplicate_cpu_reg : (i j : ℕ) (value : List ℕ) → Cpu b i → Cpu b j → j < i → HasValue b i reg_key value → HasValue b j reg_key value → CpuRule b 13 i

-- 01's rule 9, which 02 (W3) splits in three
pub data CpusNode (b : Board) : Type 0 where
  name : (node_name b 0 ≡ cpus_word → ⊥) → CpusNode b
  address_cells : ((n : ℕ) → AddressCells b n → ⊥) → CpusNode b
  size_cells : (SizeCells b → ⊥) → CpusNode b

-- sound cpu nodes: none of rules 9 to 13, 36 and 37 is broken
abbrev pub SoundCpus : Board → Type 0
SoundCpus b = (n p : ℕ) → CpuRule b n p → ⊥

pub data PhandleRule (b : Board) : ℕ → ℕ → Type 0 where
  cpu_phandle : (i : ℕ) → Cpu b i → ((h : ℕ) → Phandle b i h → ⊥) → PhandleRule b 17 i
  cpu_phandle_taken : (i j h : ℕ) → Cpu b i → Cpu b j → j < i → Phandle b i h → Phandle b j h → PhandleRule b 17 i

-- sound phandles: rule 17 is not broken
abbrev pub SoundPhandles : Board → Type 0
SoundPhandles b = (n p : ℕ) → PhandleRule b n p → ⊥
