-- SPDX-License-Identifier: BSD-2-Clause OR GPL-2.0-or-later
-- The second place of what is told (02, W3): which line to fix.
use Rattle.std.specs.Prelude.{List, ℕ}
use Rattle.laws.specs.facts.Limits.{no_property}
use Rattle.tables.specs.facts.Binding.{reg_key, cpu_key, phandle_key, device_type_key, address_cells_key, size_cells_key}
use Rattle.tables.specs.facts.Board.{Board}
use Rattle.tables.specs.facts.Property.{Property}

-- the property that a number speaks of, one of the record at the place told; no other number speaks of a property
pub data Concerns : ℕ → List ℕ → Type 0 where
  device_type : Concerns 11 device_type_key
  reg : Concerns 12 reg_key
  phandle : Concerns 17 phandle_key
  cpu : Concerns 24 cpu_key
  address_cells : Concerns 36 address_cells_key
  size_cells : Concerns 37 size_cells_key

-- the second place of the number n told of record p
pub data Second (b : Board) (n p : ℕ) : ℕ → Type 0 where
  found : {key : List ℕ} {k : ℕ} → Concerns n key → Property b p key k → Second b n p k
  missing : {key : List ℕ} → Concerns n key → ((k : ℕ) → Property b p key k → ⊥) → Second b n p no_property
  none : ((key : List ℕ) → Concerns n key → ⊥) → Second b n p no_property
