-- SPDX-License-Identifier: BSD-2-Clause OR GPL-2.0-or-later
-- A board's tables (01, "The tables"): the width, the words of the node and property records, the bytes of the pool.
use Rattle.std.specs.Prelude.{◌≡◌, ◌⊎◌, List, ℕ, ◌^◌, ◌<◌, ◌+◌, ◌≤◌, ◌/◌, ◌*◌, get_or, length, take, drop}
use Rattle.tables.specs.declared.Tables.{Tables}

pub record Board : Type 0 where
  pub width : ℕ
  pub nodes : List ℕ
  pub props : List ℕ
  pub pool : List ℕ

-- the board numbers: ARM of 32 and of 64 bits, and RISC-V (02, W7)
abbrev pub arm32 : ℕ
arm32 = 32

abbrev pub arm64 : ℕ
arm64 = 64

abbrev pub riscv : ℕ
riscv = 5

-- what the width may be
abbrev pub BoardNumber : ℕ → Type 0
BoardNumber width = (width ≡ arm32) ⊎ ((width ≡ arm64) ⊎ (width ≡ riscv))

-- the cpus of a board have MPIDRs; those of a RISC-V board have hart ids
abbrev pub HasMpidrs : Board → Type 0
HasMpidrs b = b.width ≡ riscv → ⊥

-- the board that four slices hold
abbrev pub board : ℕ → List ℕ → List ℕ → List ℕ → Board
board width nodes props pool = record { width = width; nodes = nodes; props = props; pool = pool }

-- .. and that a width and tables do
abbrev pub board_of : ℕ → Tables → Board
board_of width t = board width t.nodes.now t.props.now t.pool.now

-- words are 32 bits wide and bytes 8, as slices of u32 and u8 hold them
pub record WordSized (b : Board) : Type 0 where
  pub words_of_nodes : (i : ℕ) → get_or b.nodes i 0 < 2 ^ 32
  pub words_of_props : (i : ℕ) → get_or b.props i 0 < 2 ^ 32
  pub bytes : (i : ℕ) → get_or b.pool i 0 < 256

-- a range of the pool lies inside it; a range of length 0 may start at its end
abbrev pub Inside : List ℕ → ℕ → ℕ → Type 0
Inside pool offset len = offset + len ≤ length pool

-- the bytes of a range
abbrev pub range : List ℕ → ℕ → ℕ → List ℕ
range pool offset len = take len (drop offset pool)

-- node records: parent, name offset, name length
abbrev pub node_count : List ℕ → ℕ
node_count nodes = length nodes / 3

abbrev pub parent_word : List ℕ → ℕ → ℕ
parent_word nodes i = get_or nodes (3 * i) 0

abbrev pub name_offset : List ℕ → ℕ → ℕ
name_offset nodes i = get_or nodes (3 * i + 1) 0

abbrev pub name_length : List ℕ → ℕ → ℕ
name_length nodes i = get_or nodes (3 * i + 2) 0

-- property records: node, name offset, name length, value offset, value length
abbrev pub prop_count : List ℕ → ℕ
prop_count props = length props / 5

abbrev pub prop_node : List ℕ → ℕ → ℕ
prop_node props k = get_or props (5 * k) 0

abbrev pub key_offset : List ℕ → ℕ → ℕ
key_offset props k = get_or props (5 * k + 1) 0

abbrev pub key_length : List ℕ → ℕ → ℕ
key_length props k = get_or props (5 * k + 2) 0

abbrev pub value_offset : List ℕ → ℕ → ℕ
value_offset props k = get_or props (5 * k + 3) 0

abbrev pub value_length : List ℕ → ℕ → ℕ
value_length props k = get_or props (5 * k + 4) 0

-- the bytes of a node's name, of a property's name and of its value
abbrev pub node_name : Board → ℕ → List ℕ
node_name b i = range b.pool (name_offset b.nodes i) (name_length b.nodes i)

abbrev pub prop_name : Board → ℕ → List ℕ
prop_name b k = range b.pool (key_offset b.props k) (key_length b.props k)

abbrev pub prop_value : Board → ℕ → List ℕ
prop_value b k = range b.pool (value_offset b.props k) (value_length b.props k)
