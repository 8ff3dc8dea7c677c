-- SPDX-License-Identifier: BSD-2-Clause OR GPL-2.0-or-later
-- All rules of 01's table, 1 to 27, and 02's 36 and 37: the number and the place of each broken one.
use Rattle.std.specs.Prelude.{List, ◌≡◌, ℕ, ◌*◌, ◌<◌, length}
use Rattle.laws.specs.facts.Listing.{Listing}
use Rattle.laws.specs.facts.First.{First}
use Rattle.layout.specs.facts.Row.{row_size}
use Rattle.tables.specs.facts.Board.{Board}
use Rattle.wellformed.specs.facts.Rules.{TableRule}
use Rattle.wellformed.specs.facts.Order.{stages, stage}
use Rattle.cpus.specs.facts.Node.{Cpu}
use Rattle.cpus.specs.facts.Rules.{CpuRule, CpusNode, PhandleRule}
use Rattle.cpumap.specs.facts.Rules.{MapRule}
use Rattle.topology.specs.facts.Rules.{TopologyRule}
use Rattle.leaves.specs.facts.Rules.{LeafRule}

-- a rule is broken at a place, for a board and a row buffer of so many words
pub data Breaks (b : Board) (room : ℕ) : ℕ → ℕ → Type 0 where
  tables : {n p : ℕ} → TableRule b n p → Breaks b room n p
  cpus : {n p : ℕ} → CpuRule b n p → Breaks b room n p
  map : {n p : ℕ} → MapRule b n p → Breaks b room n p
  phandles : {n p : ℕ} → PhandleRule b n p → Breaks b room n p
  topology : {n p : ℕ} → TopologyRule b n p → Breaks b room n p
  leaves : {n p : ℕ} → LeafRule b n p → Breaks b room n p
  row_space : (cpus : List ℕ) → Listing (Cpu b) cpus → room < row_size * length cpus → Breaks b room 27 0

-- of a family of rules, the broken one that 01's order tells; its number stands in one of the stages
pub record Told (Rule : ℕ → ℕ → Type 0) (n p : ℕ) : Type 0 where
  pub first : First stage Rule n p
  pub staged : stage n < length stages

-- 01's rules before 02 (W3) split number 9: rule 9 as it stood, and all others
pub data BreaksUnsplit (b : Board) (room : ℕ) : ℕ → ℕ → Type 0 where
  cpus_node : CpusNode b → BreaksUnsplit b room 9 0
  other : {n p : ℕ} → Breaks b room n p → (n ≡ 9 → ⊥) → (n ≡ 36 → ⊥) → (n ≡ 37 → ⊥) → BreaksUnsplit b room n p

-- a map rule is broken, one of 15 to 26: of the map, of the phandles that its leaves name, of its topology, or of its leaves
pub data MapBroken (b : Board) : Type 0 where
  map : {n p : ℕ} → MapRule b n p → MapBroken b
  phandle : {n p : ℕ} → PhandleRule b n p → MapBroken b
  topology : {n p : ℕ} → TopologyRule b n p → MapBroken b
  leaf : {n p : ℕ} → LeafRule b n p → MapBroken b

-- room for twelve words for each cpu record
abbrev pub Room : Board → ℕ → Type 0
Room b room = Breaks b room 27 0 → ⊥
