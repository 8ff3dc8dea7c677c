-- SPDX-License-Identifier: BSD-2-Clause OR GPL-2.0-or-later
-- `list_slot` refuses a list with a fault and an MPIDR that is not listed. Assumes nothing.
use mathlib.Core.Path.{◌≡◌, refl, sym, ap, ◌∙◌}
use mathlib.Core.Bool.{true, false}
use mathlib.Core.List.{List}
use Prim.Native.Nat.{ℕ}
use Rattle.std.specs.Prelude.{Ok, Err}
use Rattle.std.proofs.lemmas.Result.{err_from_is_err_and}
use Rattle.laws.specs.declared.rules.Broken.{Broken}
use Rattle.laws.specs.answers.Search.{is_among}
use Rattle.laws.proofs.ToldLaws.{rule_counts}
use Rattle.affinity.specs.facts.Told.{ListMask, ListSlot}
use Rattle.affinity.specs.answers.Told.{mask_told, slot_told}
use Rattle.affinity.specs.answers.Hash.{hash_of_mask, slot_guarded}
use Rattle.affinity.specs.answers.List.{mask_answer, slot_answer}
use Rattle.affinity.specs.facts.List.{SlotDemands}
use Rattle.affinity.proofs.SlotLaws.{slot_guarded_lem}
use Rattle.affinity.proofs.ListLaws.{mask_refused, mask_accepted}
use Rattle.affinity.proofs.ListMeans.{slot_meets}
use Rattle.affinity.proofs.list.list_slot.Goals as goal

abbrev as_slot : ListMask → ListSlot
as_slot m =
    record { number = m.number; place = m.place; slot = 0 }

abbrev not_listed : ListSlot
not_listed = record { number = 30; place = 0; slot = 0 }

module _ (list : List ℕ) (mpidr : ℕ) where
  abbrev Meets : ListSlot → Type 0
  Meets r = (r ≡ slot_answer mpidr list) × SlotDemands list mpidr r

  refused : (r : Broken) → mask_told (Err r) ≡ mask_answer list → Meets (slot_told (Err r))
  unfolding slot_answer
  refused r e =
      let told = mask_refused list (mask_told (Err r)) e (rule_counts r.rule) in
      slot_meets list mpidr {r = slot_told (Err r)} (rw told.0 (ap as_slot told.1))

  unlisted : (mask : ℕ) → mask_told (Ok mask) ≡ mask_answer list → is_among list mpidr ≡ false → Meets not_listed
  unfolding slot_answer
  unlisted mask e f = slot_meets list mpidr {r = not_listed} (rw ((mask_accepted list (mask_told (Ok mask)) e refl).0, f))

  listed :
      (mask slot : ℕ) →
      mask_told (Ok mask) ≡ mask_answer list →
      is_among list mpidr ≡ true →
      slot ≡ slot_guarded (hash_of_mask mask) mpidr →
      Meets (slot_told (Ok slot))
  unfolding slot_answer
  listed mask slot e f g =
      let told = mask_accepted list (mask_told (Ok mask)) e refl in
      slot_meets list mpidr {r = slot_told (Ok slot)} (rw (told.0, f) (rw (g, told.1, slot_guarded_lem)))

pub returns-in_err-mask : goal.returns-in_err-mask
returns-in_err-mask c =
    let p = err_from_is_err_and c.from_residual.result c.from_residual.ensures.1 in
    let mask = c.in_err-mask.ensures in
    let told = refused c.args.list.now c.args.mpidr c.in_err-mask.field-0.0 mask.answer in
    rw (p.1, p.2) (record { answer = told.0; demands = told.1 })

pub returns-then-not-is_among : goal.returns-then-not-is_among
returns-then-not-is_among c =
    let a = c.args in
    let told = unlisted a.list.now a.mpidr c.in_ok-mask.mask c.in_ok-mask.ensures.answer (sym c.is_among.ensures ∙ c.if-not-is_among.true) in
    rw c.broken_at.ensures (record { answer = told.0; demands = told.1 })

pub returns : goal.returns
returns c =
    let a = c.args in
    let mask = c.in_ok-mask in
    let told =
    listed a.list.now a.mpidr mask.mask c.slot_of.result mask.ensures.answer
    (sym c.is_among.ensures ∙ c.if-not-is_among.false)
    (c.slot_of.ensures ∙ ap (λ h. slot_guarded h a.mpidr) c.hash_of_mask.ensures) in
    record { answer = told.0; demands = told.1 }
