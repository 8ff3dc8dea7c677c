-- SPDX-License-Identifier: BSD-2-Clause OR GPL-2.0-or-later
-- Rules 15 and 16 as facts: each constructor is a way to break a rule of that number at that place.
use Rattle.std.specs.Prelude.{◌≡◌, ℕ, ◌<◌}
use Rattle.tables.specs.facts.Binding.{map_word}
use Rattle.tables.specs.facts.Board.{Board, node_count, node_name}
use Rattle.cpumap.specs.facts.Map.{Map}

pub data MapRule (b : Board) : ℕ → ℕ → Type 0 where
  cpu_map_missing : ((m : ℕ) → Map b m → ⊥) → MapRule b 15 0
  cpu_map_duplicate : (m i : ℕ) → Map b m → i < node_count b.nodes → node_name b i ≡ map_word → (i ≡ m → ⊥) → MapRule b 16 i
