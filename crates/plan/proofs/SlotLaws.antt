-- SPDX-License-Identifier: BSD-2-Clause OR GPL-2.0-or-later
-- The slot under a plan: the computed one, one bit at a time, is that of the facts; no two of a separated list have one. Assumes nothing.
use mathlib.Core.Path.{◌≡◌, sym, ap, ◌∙◌}
use mathlib.Core.List.{List}
use Prim.Native.Nat.{ℕ, ◌+◌, ◌*◌, ◌%◌, ◌^◌, ◌≤◌, ◌<◌}
use native.Mathlib.Nat.{lt_of_lt_of_le}
use native.Mathlib.Numerals.{add-one}
use native.Mathlib.Omega.{arith}
use lib.ListN.{length, get_or}
use lib.Pow.{shl_exact, pow_mono}
use Rattle.laws.specs.facts.Digit.{digit}
use Rattle.laws.specs.facts.Listing.{Member}
use Rattle.laws.specs.answers.FromDigits.{from_digits}
use Rattle.laws.proofs.DecideLaws.{holds_unless, eq_decides}
use Rattle.laws.proofs.DigitLaws.{digit_lt}
use Rattle.laws.proofs.FromDigitLaws.{from_lt, from_digit, digit_ext_below}
use Rattle.plan.specs.facts.Plan.{SeparatedAt, PlanSlot}
use Rattle.plan.specs.answers.Slot.{slot_under}

-- one digit more of a slot of at most 32 digits
module _ (d : ℕ → ℕ) (small : (k : ℕ) → d k < 2) (i : ℕ) (lt : i < 32) where
  pub digit_step : from_digits d i + (d i * 2 ^ i) % 4294967296 ≡ from_digits d (i + 1)
  unfolding from_digits
  digit_step = rw add-one (ap (λ (x : ℕ). from_digits d i + x) (shl_exact 1 i 32 (small i) (omega arith)))

  pub digit_fits : from_digits d i + (d i * 2 ^ i) % 4294967296 < 4294967296
  digit_fits = rw digit_step (lt_of_lt_of_le (from_lt d small (i + 1)) (pow_mono (let le : i + 1 ≤ 32 = omega arith in le)))

-- the computed slot is the one of the facts, which have no other
pub slot_is : (positions : List ℕ) (mpidr : ℕ) → PlanSlot positions mpidr (slot_under positions mpidr)
unfolding slot_under
slot_is positions mpidr =
    record {
      bits = λ i lt. from_digit bit (λ k. digit_lt _ _) (length positions) i lt;
      bounded = from_lt bit (λ k. digit_lt _ _) (length positions);
    }
  where
    bit : ℕ → ℕ
    bit i = digit mpidr (get_or positions i 0)

pub slot_one : {positions : List ℕ} {mpidr s t : ℕ} → PlanSlot positions mpidr s → PlanSlot positions mpidr t → s ≡ t
slot_one {positions} {mpidr} {s} {t} a b =
    digit_ext_below s t (length positions) a.bounded b.bounded (λ i lt. a.bits i lt ∙ sym (b.bits i lt))

-- under positions that separate a list no two of it have one slot
pub slots_distinct :
    {list positions : List ℕ} {x y slot : ℕ} →
    SeparatedAt list positions →
    Member list x →
    Member list y →
    PlanSlot positions x slot →
    PlanSlot positions y slot →
    x ≡ y
slots_distinct {x = x} {y = y} h p q a b =
    holds_unless (eq_decides x y) (λ ne.
    let d = h x y p q ne in
    let m = d.kind in
    let same = sym (a.bits m.index m.inside) ∙ b.bits m.index m.inside in
    d.differs (rw m.here at same))
