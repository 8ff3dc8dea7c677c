-- SPDX-License-Identifier: BSD-2-Clause OR GPL-2.0-or-later
-- Rules 24 to 26 as facts: each constructor is a way to break a rule of that number at that place.
use Rattle.std.specs.Prelude.{ℕ, ◌<◌}
use Rattle.tables.specs.facts.Board.{Board}
use Rattle.cpus.specs.facts.Node.{Cpu}
use Rattle.leaves.specs.facts.Leaf.{Leaf, Names}

pub data LeafRule (b : Board) : ℕ → ℕ → Type 0 where
  cpu_map_phandle : (i : ℕ) → Leaf b i → ((c : ℕ) → Names b i c → ⊥) → LeafRule b 24 i
  cpu_map_cpu_repeated : (i j c : ℕ) → Leaf b i → Leaf b j → j < i → Names b i c → Names b j c → LeafRule b 25 i
  cpu_unmapped : (c : ℕ) → Cpu b c → ((i : ℕ) → Leaf b i → Names b i c → ⊥) → LeafRule b 26 c

-- sound leaves: none of rules 24 to 26 is broken
abbrev pub SoundLeaves : Board → Type 0
SoundLeaves b = (n p : ℕ) → LeafRule b n p → ⊥
