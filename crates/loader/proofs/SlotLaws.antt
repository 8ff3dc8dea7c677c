-- SPDX-License-Identifier: BSD-2-Clause OR GPL-2.0-or-later
-- The slot of an MPIDR in a list of bytes: what is demanded of its answer, by what is demanded of the list's. Assumes nothing.
use mathlib.Core.Path.{◌≡◌, refl, sym, subst, ap, ◌∙◌}
use mathlib.Core.Bool.{Bool, true, false, cond}
use mathlib.Core.List.{List}
use Prim.Native.Nat.{ℕ, ◌%◌, ◌/◌, ◌≤◌, ◌<◌}
use native.Mathlib.Omega.{arith}
use lib.Dec.{eqb}
use lib.ListN.{length}
use borrow.Author.Tests.{eq-eqb, ne_eqb, eqb-true, eqb-false, lt-ltb}
use Rattle.laws.specs.facts.Limits.{max_cpus}
use Rattle.laws.specs.facts.Told.{Fault}
use Rattle.laws.specs.answers.Fault.{first_fault}
use Rattle.laws.specs.facts.First.{Before}
use Rattle.wire.specs.facts.Bytes.{number_size, numbers_in}
use Rattle.wire.proofs.ByteLaws.{numbers_length}
use Rattle.affinity.specs.facts.Told.{ListSlot}
use Rattle.affinity.specs.facts.List.{list_stage, ListRule, SlotRule, SlotDemands}
use Rattle.affinity.specs.answers.List.{first_outside, list_fault, slot_answer}
use Rattle.affinity.proofs.ListLaws.{fault_within, slot_place_le}
use Rattle.affinity.proofs.ListMeans.{slot_meets}
use Rattle.loader.specs.facts.List.{ByteSlotRule, ByteSlotDemands}
use Rattle.loader.specs.answers.List.{byte_slot}

module _ (bytes : List ℕ) (mpidr : ℕ) where
  abbrev list : List ℕ
  list = numbers_in bytes

  abbrev pub Owed : ListSlot → Type 0
  Owed r = (r ≡ byte_slot mpidr bytes) × ByteSlotDemands bytes mpidr r

  -- no rule has a smaller number than 28
  from_28 : {n p : ℕ} → ByteSlotRule bytes mpidr n p → 28 ≤ n
  from_28 (ByteSlotRule.list_length_part ne) = omega arith
  from_28 (ByteSlotRule.of_numbers (SlotRule.earlier (ListRule.list_length_empty e))) = omega arith
  from_28 (ByteSlotRule.of_numbers (SlotRule.earlier (ListRule.list_length_many lt))) = omega arith
  from_28 (ByteSlotRule.of_numbers (SlotRule.earlier (ListRule.list_mpidr i lt outside))) = omega arith
  from_28 (ByteSlotRule.of_numbers (SlotRule.list_unknown missing)) = omega arith

  none_before_28 : {n p : ℕ} → 28 ≤ n → Before list_stage n p 28 0 → ⊥
  none_before_28 le (Before.earlier_stage h) = omega arith
  none_before_28 le (Before.lower_place s h) = omega arith
  none_before_28 le (Before.smaller_number s e h) = omega arith

  -- bytes that end inside an MPIDR
  pub cut : (length bytes % number_size ≡ 0 → ⊥) → Owed (record { number = 28; place = 0; slot = 0 })
  unfolding byte_slot
  cut ne = (
    rw (ne_eqb (length bytes % number_size) 0 ne),
    record {
      refused = λ _. record {
        first = record { broken = ByteSlotRule.list_length_part ne; none_before = λ n p rule. none_before_28 (from_28 rule) };
        slot = refl;
      };
      sound = λ z. absurd (omega arith);
    },
  )

  -- whole MPIDRs: what is demanded of their list
  module _ (whole : length bytes % number_size ≡ 0) where
    of_list : {n p : ℕ} → ByteSlotRule bytes mpidr n p → SlotRule (ListRule list) list mpidr n p
    of_list (ByteSlotRule.list_length_part ne) = absurd (ne whole)
    of_list (ByteSlotRule.of_numbers rule) = rule

    pub listed : {r : ListSlot} → r ≡ slot_answer mpidr list → Owed r
    unfolding byte_slot
    listed {r} e =
        let d : SlotDemands list mpidr r = (slot_meets list mpidr e).1 in (
          rw (eq-eqb (length bytes % number_size) 0 whole) e,
          record {
            refused = λ ne.
                let told = d.refused ne in
                record {
                  first =
                      record {
                        broken = ByteSlotRule.of_numbers told.first.broken;
                        none_before = λ n p rule. told.first.none_before n p (of_list rule);
                      };
                  slot = told.slot;
                };
            sound = λ z. record { whole = whole; of_list = d.sound z };
          },
        )

    -- too many of them
    pub long : max_cpus < length bytes / number_size → Owed (record { number = 28; place = 0; slot = 0 })
    unfolding slot_answer list_fault
    long many =
        let more : max_cpus < length list = omega (arith, numbers_length bytes) in
        listed (rw (ne_eqb (length list) 0 (λ e. omega arith), lt-ltb max_cpus (length list) more))

    -- one with a bit outside
    nothing_outside : length list ≡ 0 → (first_outside list).number ≡ 0
    unfolding first_outside first_fault
    nothing_outside e = rw e

    pub outside :
        length bytes / number_size ≤ max_cpus →
        {f : Fault} →
        f ≡ first_outside list →
        (f.number ≡ 0 → ⊥) →
        Owed (record { number = f.number; place = f.place; slot = 0 })
    unfolding slot_answer
    outside few {f} e ne =
        let some : length list ≡ 0 → ⊥ = λ z. ne (ap (λ (g : Fault). g.number) e ∙ nothing_outside z) in
        let told : list_fault list ≡ f = fault_within list some (omega (arith, numbers_length bytes)) ∙ sym e in
        listed (rw (told, ne_eqb f.number 0 ne))

  -- a place of the list
  pub byte_place : (byte_slot mpidr bytes).place ≤ 256
  unfolding byte_slot
  byte_place = go (eqb (length bytes % number_size) 0) refl
    where
      go :
          (t : Bool) →
          eqb (length bytes % number_size) 0 ≡ t →
          (cond t (slot_answer mpidr list) (record { number = 28; place = 0; slot = 0 })).place ≤ 256
      go true e = slot_place_le list mpidr
      go false e = omega arith

  -- what is demanded of the definition
  pub byte_demands : ByteSlotDemands bytes mpidr (byte_slot mpidr bytes)
  byte_demands = go (eqb (length bytes % number_size) 0) refl
    where
      go : (t : Bool) → eqb (length bytes % number_size) 0 ≡ t → ByteSlotDemands bytes mpidr (byte_slot mpidr bytes)
      go true e =
          let owed = listed (eqb-true (length bytes % number_size) 0 e) {r = slot_answer mpidr list} refl in
          subst (ByteSlotDemands bytes mpidr) owed.0 owed.1
      go false e =
          let owed = cut (eqb-false (length bytes % number_size) 0 e) in
          subst (ByteSlotDemands bytes mpidr) owed.0 owed.1
