-- SPDX-License-Identifier: BSD-2-Clause OR GPL-2.0-or-later
-- The names and values of the bindings, as bytes.
use Rattle.std.specs.Prelude.{List, [], ◌∷◌, ℕ}

-- `reg`
abbrev pub reg_key : List ℕ
reg_key = 114 ∷ 101 ∷ 103 ∷ []

-- `cpu`
abbrev pub cpu_key : List ℕ
cpu_key = 99 ∷ 112 ∷ 117 ∷ []

-- `phandle`
abbrev pub phandle_key : List ℕ
phandle_key = 112 ∷ 104 ∷ 97 ∷ 110 ∷ 100 ∷ 108 ∷ 101 ∷ []

-- `device_type`
abbrev pub device_type_key : List ℕ
device_type_key = 100 ∷ 101 ∷ 118 ∷ 105 ∷ 99 ∷ 101 ∷ 95 ∷ 116 ∷ 121 ∷ 112 ∷ 101 ∷ []

-- `cpus`
abbrev pub cpus_word : List ℕ
cpus_word = 99 ∷ 112 ∷ 117 ∷ 115 ∷ []

-- `cpu`
abbrev pub cpu_word : List ℕ
cpu_word = 99 ∷ 112 ∷ 117 ∷ []

-- `cpu@`
abbrev pub cpu_unit : List ℕ
cpu_unit = 99 ∷ 112 ∷ 117 ∷ 64 ∷ []

-- `cpu` and one zero byte
abbrev pub cpu_string : List ℕ
cpu_string = 99 ∷ 112 ∷ 117 ∷ 0 ∷ []

-- `#address-cells`
abbrev pub address_cells_key : List ℕ
address_cells_key = 35 ∷ 97 ∷ 100 ∷ 100 ∷ 114 ∷ 101 ∷ 115 ∷ 115 ∷ 45 ∷ 99 ∷ 101 ∷ 108 ∷ 108 ∷ 115 ∷ []

-- `#size-cells`
abbrev pub size_cells_key : List ℕ
size_cells_key = 35 ∷ 115 ∷ 105 ∷ 122 ∷ 101 ∷ 45 ∷ 99 ∷ 101 ∷ 108 ∷ 108 ∷ 115 ∷ []

-- `cpu-map`
abbrev pub map_word : List ℕ
map_word = 99 ∷ 112 ∷ 117 ∷ 45 ∷ 109 ∷ 97 ∷ 112 ∷ []
