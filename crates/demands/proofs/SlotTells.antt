-- SPDX-License-Identifier: BSD-2-Clause OR GPL-2.0-or-later
-- With 38 and 39 behind them, the stages in order tell the first broken rule of the larger family. Assumes nothing.
use mathlib.Core.Path.{◌≡◌, refl}
use mathlib.Core.Bool.{Bool, true, false, cond}
use Prim.Native.Nat.{ℕ, ◌^◌, ◌≤◌, ◌<◌}
use native.Mathlib.Omega.{arith}
use lib.Dec.{ltb}
use lib.ListN.{length}
use Rattle.laws.specs.facts.Limits.{max_table_bits}
use Rattle.laws.specs.answers.Fault.{told, or_else}
use Rattle.laws.proofs.FirstLaws.{Tells}
use Rattle.laws.proofs.RuleStageLaws.{Split, tells_as, split_tells, then_tells}
use Rattle.laws.proofs.VerdictLaws.{once_tells}
use Rattle.slot_table.specs.facts.SlotTable.{SlotTableRule}
use Rattle.slot_table.specs.answers.Table.{entries_fault}
use Rattle.slot_table.proofs.FaultLaws.{bits_fault, space_fault, bits_told, space_told}
use Rattle.tables.specs.facts.Board.{Board, WordSized}
use Rattle.wellformed.specs.facts.Order.{stages, stage}
use Rattle.wellformed.specs.facts.Rules.{WellFormed}
use Rattle.cpus.specs.facts.Rules.{SoundCpus}
use Rattle.rows.specs.answers.Slots.{board_hash}
use Rattle.rows.proofs.HashMeans.{board_hash_lem}
use Rattle.rows.proofs.FitUnique.{board_hash_unique}
use Rattle.demands.specs.facts.Rules.{Breaks}
use Rattle.demands.specs.facts.Slots.{SlotTableBroken, SlotBreaks}
use Rattle.demands.specs.answers.Slots.{slots_fault}
use Rattle.demands.proofs.StageLaws.{breaks_staged}
use Rattle.demands.proofs.BoardTells.{board_tells}

-- 38, then 39
module _ (bits entries : ℕ) where
  in_turn : told (entries_fault bits entries) 0 ≡ or_else (told (bits_fault bits entries) 0) (told (space_fault bits entries) 0)
  in_turn = go (ltb max_table_bits bits) (ltb entries (2 ^ bits))
    where
      go : (t u : Bool) → told (cond t 38 (cond u 39 0)) 0 ≡ or_else (told (cond t 38 0) 0) (told (cond u 39 0) 0)
      go true u = refl
      go false true = refl
      go false false = refl

  of_bits : (m q : ℕ) → SlotTableRule bits entries m q → stage m ≡ stage 38 → (m ≡ 38) × (q ≡ 0) × (bits ≤ max_table_bits → ⊥)
  of_bits m q (SlotTableRule.many_bits lt) e = (refl, refl, λ le. omega arith)
  of_bits m q (SlotTableRule.short_table lt) e = absurd (omega arith)

  of_space : (m q : ℕ) → SlotTableRule bits entries m q → stage m ≡ stage 39 → (m ≡ 39) × (q ≡ 0) × (2 ^ bits ≤ entries → ⊥)
  of_space m q (SlotTableRule.many_bits lt) e = absurd (omega arith)
  of_space m q (SlotTableRule.short_table lt) e = (refl, refl, λ le. omega arith)

  entries_tells : Tells stage (SlotTableRule bits entries) (stage 38) (length stages) (told (entries_fault bits entries) 0)
  entries_tells =
      rw in_turn
      (then_tells stage (SlotTableRule bits entries) (omega arith) (omega arith)
      (once_tells stage (SlotTableRule bits entries) 38 (omega arith) of_bits (bits_told bits entries)) λ _.
      once_tells stage (SlotTableRule bits entries) 39 (omega arith) of_space (space_told bits entries))

-- the rules of a table by the bits of the board's hash
module _ {b : Board} (sized : WordSized b) (well : WellFormed b) (sound : SoundCpus b) {entries n p : ℕ} where
  pub slot_rule : SlotTableRule (board_hash b).bits entries n p → SlotTableBroken b entries n p
  slot_rule = SlotTableBroken.slots (board_hash b) (board_hash_lem sized well sound)

  table_rule : SlotTableBroken b entries n p → SlotTableRule (board_hash b).bits entries n p
  table_rule (SlotTableBroken.slots h is r) = rw (← (board_hash_unique well is (board_hash_lem sized well sound))) r

slot_staged : {b : Board} {entries n p : ℕ} → SlotTableBroken b entries n p → (stage 38 ≤ stage n) × (stage n < length stages)
slot_staged (SlotTableBroken.slots h is (SlotTableRule.many_bits lt)) = (omega arith, omega arith)
slot_staged (SlotTableBroken.slots h is (SlotTableRule.short_table lt)) = (omega arith, omega arith)

module _ {b : Board} {room entries : ℕ} where
  pub slot_breaks_staged : (n p : ℕ) → SlotBreaks b room entries n p → stage n < length stages
  slot_breaks_staged n p (SlotBreaks.reading r) = omega (arith, breaks_staged r)
  slot_breaks_staged n p (SlotBreaks.slots r) = (slot_staged r).1

  from_split : (n p : ℕ) → Split stage (stage 38) (Breaks b room) (SlotTableBroken b entries) n p → SlotBreaks b room entries n p
  from_split n p (Split.early r _) = SlotBreaks.reading r
  from_split n p (Split.late r _) = SlotBreaks.slots r

  to_split : (n p : ℕ) → SlotBreaks b room entries n p → Split stage (stage 38) (Breaks b room) (SlotTableBroken b entries) n p
  to_split n p (SlotBreaks.reading r) = Split.early r (breaks_staged r)
  to_split n p (SlotBreaks.slots r) = Split.late r (slot_staged r).0

pub slots_tells :
    {b : Board} → WordSized b → (room entries : ℕ) → Tells stage (SlotBreaks b room entries) 0 (length stages) (slots_fault b room entries)
unfolding slots_fault
slots_tells {b} sized room entries =
    tells_as from_split to_split
    (split_tells stage (stage 38) (omega arith) (omega arith) (board_tells sized room) λ none.
    let well : WellFormed b = λ n p r. let s = Breaks.tables r in none n p (s, omega arith, breaks_staged s) in
    let sound : SoundCpus b = λ n p r. let s = Breaks.cpus r in none n p (s, omega arith, breaks_staged s) in
    tells_as (λ n p. slot_rule sized well sound) (λ n p. table_rule sized well sound) (entries_tells (board_hash b).bits entries))
