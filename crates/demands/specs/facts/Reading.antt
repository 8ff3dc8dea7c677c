-- SPDX-License-Identifier: BSD-2-Clause OR GPL-2.0-or-later
-- What holds of the answer and of the row buffer: demand 1 of every board, demand 3 of every board with well-formed tables, sound cpu nodes and room.
use Rattle.std.specs.Prelude.{List, ◌≡◌, ◌⊎◌, ◌↔◌, ℕ, ◌*◌, ◌^◌, ◌<◌, take, length, drop}
use Rattle.laws.specs.facts.Limits.{no_property}
use Rattle.laws.specs.facts.Listing.{Listing}
use Rattle.layout.specs.facts.Row.{row_size, gap, slot_at}
use Rattle.affinity.specs.facts.List.{no_hash}
use Rattle.tables.specs.facts.Board.{Board, riscv, HasMpidrs}
use Rattle.tables.specs.facts.Second.{Second}
use Rattle.wellformed.specs.facts.Rules.{WellFormed}
use Rattle.cpus.specs.facts.Node.{Cpu}
use Rattle.cpus.specs.facts.Rules.{CpuRule, CpusNode, SoundCpus}
use Rattle.cpumap.specs.facts.Map.{Map}
use Rattle.rows.specs.facts.BoardHash.{BoardHash}
use Rattle.rows.specs.facts.Fits.{Fits}
use Rattle.demands.specs.facts.Told.{BoardAnswer}
use Rattle.demands.specs.facts.Rules.{Breaks, BreaksUnsplit, Told, MapBroken, Room}

-- the rows that a buffer holds
abbrev pub rows_in : BoardAnswer → List ℕ → List ℕ
rows_in answer buffer = take (row_size * answer.count) buffer

-- a refusal: of a family of rules the broken one that 01's order tells; its second place, which no other is; every other result 0; the
-- buffer as it was
pub record Refused (b : Board) (Rule : ℕ → ℕ → Type 0) (before : List ℕ) (answer : BoardAnswer) (after : List ℕ) : Type 0 where
  pub first : Told Rule answer.number answer.place
  pub second : (s : ℕ) → Second b answer.number answer.place s ↔ (s ≡ answer.second)
  pub count : answer.count ≡ 0
  pub hash : answer.hash ≡ no_hash
  pub buffer : after ≡ before

-- an acceptance: rows that fit the map and no others do, the words behind them as they were, the count, the hash, and the slots: of MPIDRs
-- distinct and bounded, of hart ids gaps
pub record Accepted (b : Board) (before : List ℕ) (answer : BoardAnswer) (after : List ℕ) : Type 0 where
  pub place : answer.place ≡ 0
  pub second : answer.second ≡ no_property
  pub fits : Fits b (rows_in answer after)
  pub only : (rows : List ℕ) → Fits b rows → rows ≡ rows_in answer after
  pub rest : drop (row_size * answer.count) after ≡ drop (row_size * answer.count) before
  pub size : length after ≡ length before
  pub count : (cpus : List ℕ) × Listing (Cpu b) cpus × (answer.count ≡ length cpus)
  pub hash : BoardHash b answer.hash
  pub distinct : HasMpidrs b → (j k : ℕ) → j < answer.count → k < answer.count → slot_at after j ≡ slot_at after k → j ≡ k
  pub bounded : HasMpidrs b → (k : ℕ) → k < answer.count → slot_at after k < 2 ^ answer.hash.bits
  pub gaps : b.width ≡ riscv → (k : ℕ) → k < answer.count → slot_at after k ≡ gap

-- demand 3: accepted exactly when the board has a map and no map rule is broken
pub record Reading (b : Board) (before : List ℕ) (answer : BoardAnswer) (after : List ℕ) : Type 0 where
  pub exactly : (answer.number ≡ 0) ↔ (((m : ℕ) × Map b m) × (MapBroken b → ⊥))
  pub refused : (answer.number ≡ 0 → ⊥) → Refused b (Breaks b (length before)) before answer after
  pub accepted : answer.number ≡ 0 → Accepted b before answer after

-- the split of 01's rule 9 (02, W3): it is broken exactly where 9, 36 or 37 is, and no board changes between accepted and refused
pub record Unchanged (b : Board) (room : ℕ) (answer : BoardAnswer) : Type 0 where
  pub nine : CpusNode b ↔ (CpuRule b 9 0 ⊎ (CpuRule b 36 0 ⊎ CpuRule b 37 0))
  pub accepted : (answer.number ≡ 0) ↔ ((n p : ℕ) → BreaksUnsplit b room n p → ⊥)

pub record Demands (b : Board) (before : List ℕ) (answer : BoardAnswer) (after : List ℕ) : Type 0 where
  -- demand 1, of every input: a refusal tells the first broken rule, and an acceptance that none is broken
  pub refused : (answer.number ≡ 0 → ⊥) → Refused b (Breaks b (length before)) before answer after
  pub sound : answer.number ≡ 0 → (n p : ℕ) → Breaks b (length before) n p → ⊥
  -- 02, W3, of every input
  pub unchanged : Unchanged b (length before) answer
  -- demand 3
  pub reading : WellFormed b → SoundCpus b → Room b (length before) → Reading b before answer after
