-- SPDX-License-Identifier: BSD-2-Clause OR GPL-2.0-or-later
-- Which of rules 38 and 39 is told, and the size of a table. Assumes nothing.
use mathlib.Core.Path.{◌≡◌, refl}
use mathlib.Core.Bool.{Bool, true, false, cond}
use Prim.Native.Nat.{ℕ, ◌*◌, ◌%◌, ◌^◌, ◌≤◌}
use native.Mathlib.Omega.{arith}
use lib.Dec.{ltb, lit<}
use lib.Pow.{shl_exact}
use borrow.Author.Tests.{ltb-true, ltb-false}
use Rattle.laws.specs.facts.Limits.{max_table_bits}
use Rattle.laws.proofs.VerdictLaws.{Verdict}
use Rattle.slot_table.specs.facts.SlotTable.{SlotTableRule}
use Rattle.slot_table.specs.answers.Table.{entries_fault}

-- the size that the code computes is not cut off at 64 digits
pub size_exact : (bits : ℕ) → bits ≤ max_table_bits → (1 * 2 ^ bits) % 2 ^ 64 ≡ 1 * 2 ^ bits
size_exact bits le = shl_exact 1 bits 64 (lit< tt) (omega arith)

module _ (bits entries : ℕ) where
  -- the rules one by one
  abbrev pub bits_fault : ℕ
  bits_fault = cond (ltb max_table_bits bits) 38 0

  abbrev pub space_fault : ℕ
  space_fault = cond (ltb entries (2 ^ bits)) 39 0

  pub bits_told : Verdict (SlotTableRule bits entries) 38 0 (bits ≤ max_table_bits) bits_fault
  bits_told = go (ltb max_table_bits bits) refl
    where
      go : (t : Bool) → ltb max_table_bits bits ≡ t → Verdict (SlotTableRule bits entries) 38 0 (bits ≤ max_table_bits) (cond t 38 0)
      go true e = Verdict.broken (SlotTableRule.many_bits (ltb-true max_table_bits bits e))
      go false e = Verdict.sound (ltb-false max_table_bits bits e)

  pub space_told : Verdict (SlotTableRule bits entries) 39 0 (2 ^ bits ≤ entries) space_fault
  space_told = go (ltb entries (2 ^ bits)) refl
    where
      go : (t : Bool) → ltb entries (2 ^ bits) ≡ t → Verdict (SlotTableRule bits entries) 39 0 (2 ^ bits ≤ entries) (cond t 39 0)
      go true e = Verdict.broken (SlotTableRule.short_table (ltb-true entries (2 ^ bits) e))
      go false e = Verdict.sound (ltb-false entries (2 ^ bits) e)

  -- nothing is told where the bits are few and there is room, and that is where no rule is broken
  pub entries_clear : entries_fault bits entries ≡ 0 → (bits ≤ max_table_bits) × (2 ^ bits ≤ entries)
  entries_clear = go (ltb max_table_bits bits) refl (ltb entries (2 ^ bits)) refl
    where
      go :
          (t : Bool) →
          ltb max_table_bits bits ≡ t →
          (u : Bool) →
          ltb entries (2 ^ bits) ≡ u →
          ◌≡◌ {A = ℕ} (cond t 38 (cond u 39 0)) 0 →
          (bits ≤ max_table_bits) × (2 ^ bits ≤ entries)
      go true e u f z = absurd (omega arith)
      go false e true f z = absurd (omega arith)
      go false e false f z = (ltb-false max_table_bits bits e, ltb-false entries (2 ^ bits) f)

  pub entries_sound : ((n p : ℕ) → SlotTableRule bits entries n p → ⊥) → entries_fault bits entries ≡ 0
  entries_sound none = go (ltb max_table_bits bits) refl (ltb entries (2 ^ bits)) refl
    where
      go : (t : Bool) → ltb max_table_bits bits ≡ t → (u : Bool) → ltb entries (2 ^ bits) ≡ u → ◌≡◌ {A = ℕ} (cond t 38 (cond u 39 0)) 0
      go true e u f = absurd (none 38 0 (SlotTableRule.many_bits (ltb-true max_table_bits bits e)))
      go false e true f = absurd (none 39 0 (SlotTableRule.short_table (ltb-true entries (2 ^ bits) f)))
      go false e false f = refl
