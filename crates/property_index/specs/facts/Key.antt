-- SPDX-License-Identifier: BSD-2-Clause OR GPL-2.0-or-later
-- The properties that are indexed: their names and their numbers.
use Rattle.std.specs.Prelude.{List, ℕ}
use Rattle.tables.specs.facts.Binding.{reg_key, cpu_key, phandle_key, device_type_key}
use Rattle.property_index.specs.declared.Key.{Key}
use Rattle.property_index.specs.declared.Key.TheVariants.{Reg, Cpu, Phandle, DeviceType}

abbrev pub key_name : Key → List ℕ
key_name Reg = reg_key
key_name Cpu = cpu_key
key_name Phandle = phandle_key
key_name DeviceType = device_type_key

abbrev pub key_number : Key → ℕ
key_number Reg = 0
key_number Cpu = 1
key_number Phandle = 2
key_number DeviceType = 3
