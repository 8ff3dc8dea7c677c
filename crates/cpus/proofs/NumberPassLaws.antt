-- SPDX-License-Identifier: BSD-2-Clause OR GPL-2.0-or-later
-- The pass that gathers the numbers of the records of a list. Assumes nothing.
use mathlib.Core.Path.{◌≡◌, refl, sym, ap, ap₂, ◌∙◌}
use mathlib.Core.Bool.{Bool, true, false, cond}
use mathlib.Core.List.{List, [], ◌∷◌, ◌++◌, map, map-append}
use Prim.Native.Nat.{ℕ, ◌+◌, ◌≤◌, ◌<◌, min}
use native.Mathlib.Numerals.{add-one}
use native.Mathlib.Omega.{arith}
use lib.Dec.{eqb}
use lib.ListN.{length, get_or, take, set, length-map, length-take}
use lib.Seq.{length-take-le, take-suc, get_or-take}
use borrow.Author.Tests.{ne_eqb}
use Rattle.laws.specs.facts.Told.{Fault}
use Rattle.laws.specs.answers.Fault.{clear, first_fault, with_second}
use Rattle.laws.specs.answers.Search.{is_among}
use Rattle.laws.specs.answers.Listed.{laid_over, fault_of_member, members_passed}
use Rattle.laws.proofs.FaultLaws.{clear_more, at_fault, at_end}
use Rattle.laws.proofs.SecondPlaceLaws.{second_at}
use Rattle.laws.proofs.OverLaws.{over_none, over_length, over_front, over_push}
use Rattle.cpus.specs.facts.Told.{CpuReading}
use Rattle.cpus.specs.answers.Numbers.{cpu_reading, unless_seen, listed_fault, first_index, first_record, numbers_over}

-- a reading keeps its value and its second place where it is refused
pub unless_same :
    (rule : ℕ) (seen : Bool) (q : CpuReading) →
    ((unless_seen rule seen q).value ≡ q.value) × ((unless_seen rule seen q).second ≡ q.second)
unless_same rule seen q = go (eqb q.number 0) seen
  where
    again : CpuReading
    again = cpu_reading rule q.second q.value

    go : (a b : Bool) → ((cond a (cond b again q) q).value ≡ q.value) × ((cond a (cond b again q) q).second ≡ q.second)
    go true true = (refl, refl)
    go true false = (refl, refl)
    go false b = (refl, refl)

module _ (r : ℕ → CpuReading) (rule : ℕ) (records before : List ℕ) where
  -- the records that there is room for
  abbrev cut : List ℕ
  cut = take (length before) records

  -- the numbers of the first k of them
  abbrev numbers : ℕ → List ℕ
  numbers k = map (λ i. (r i).value) (take k cut)

  numbers_length : (k : ℕ) → k ≤ length cut → length (numbers k) ≡ k
  numbers_length k le = length-map (take k cut) (λ i. (r i).value) ∙ length-take-le k cut le

  numbers_more : (k : ℕ) → k < length cut → numbers k ++ ((r (get_or cut k 0)).value ∷ []) ≡ numbers (k + 1)
  numbers_more k lt =
      sym (ap (λ (n : ℕ). numbers n) (add-one k)
      ∙ ap (map (λ i. (r i).value)) (take-suc cut k 0 lt)
      ∙ map-append (λ i. (r i).value) (take k cut) (get_or cut k 0 ∷ []))

  -- what holds before the record at index k
  pub record Pass (k : ℕ) (values : List ℕ) : Type 0 where
    pub within : k ≤ length cut
    pub none : first_fault (listed_fault r rule cut) k ≡ clear
    pub held : values ≡ laid_over (numbers k) before

  pub pass_start : Pass 0 before
  unfolding first_fault
  pass_start = record { within = omega arith; none = refl; held = sym (over_none before) }

  pub pass_length : {k : ℕ} {values : List ℕ} → Pass k values → length values ≡ length before
  pass_length h = ap length h.held ∙ over_length _ before

  -- what the end of the pass tells
  abbrev Told : Fault → List ℕ → Type 0
  Told fault values = (fault ≡ first_record r rule cut) × (values ≡ numbers_over r rule cut before)

  told_index :
      {fault : Fault} {k : ℕ} {values : List ℕ} →
      fault ≡ first_index r rule cut →
      members_passed cut fault ≡ k →
      Pass k values →
      Told (with_second (λ i. (r i).second) (fault_of_member cut fault)) values
  unfolding first_record numbers_over
  told_index e p h = (
    ap (λ (f : Fault). with_second (λ i. (r i).second) (fault_of_member cut f)) e,
    h.held ∙ ap (λ (n : ℕ). laid_over (numbers n) before) (sym p ∙ ap (members_passed cut) e),
  )

  -- the record at index k, what is read of it, and that refused where its number was gathered
  module _ (k i : ℕ) {values : List ℕ} (is : i ≡ get_or records k 0) (h : Pass k values) (inside : k < length records) (room : k < length values) where
    abbrev first : CpuReading
    first = r i

    abbrev checked : CpuReading
    checked = unless_seen rule (is_among (take k values) first.value) first

    fits : (k < length cut) × (k < length before)
    fits = omega (arith, length-take (length before) records, pass_length h)

    at : get_or cut k 0 ≡ i
    at = get_or-take (length before) records k 0 fits.1 ∙ sym is

    front : take k values ≡ numbers k
    front =
        let long = numbers_length k (omega (arith, fits)) in
        ap (take k) h.held
        ∙ ap (λ (n : ℕ). take n (laid_over (numbers k) before)) (sym long)
        ∙ over_front (numbers k) before (omega (arith, fits))

    pass_fault : {number : ℕ} → number ≡ checked.number → number ≡ listed_fault r rule cut k
    unfolding listed_fault
    pass_fault made =
        made
        ∙ ap (λ (j : ℕ). (unless_seen rule (is_among (take k values) (r j).value) (r j)).number) (sym at)
        ∙ ap (λ (l : List ℕ). (unless_seen rule (is_among l (r (get_or cut k 0)).value) (r (get_or cut k 0))).number) front

    pub pass_next : {number value : ℕ} → number ≡ checked.number → value ≡ first.value → number ≡ 0 → Pass (k + 1) (set values k value)
    pass_next made same z =
        record {
          within = omega (arith, fits);
          none = clear_more _ k h.none (pass_fault made) z;
          held =
              ap₂ (λ (l : List ℕ) (v : ℕ). set l k v) h.held (same ∙ ap (λ (j : ℕ). (r j).value) (sym at))
              ∙ over_push (numbers k) before _ k (numbers_length k (omega (arith, fits))) fits.1
              ∙ ap (λ (l : List ℕ). laid_over l before) (numbers_more k fits.0);
        }

    pub pass_told :
        (fault : Fault) →
        fault.number ≡ checked.number →
        fault.place ≡ i →
        fault.second ≡ first.second →
        (fault.number ≡ 0 → ⊥) →
        Told fault values
    pass_told fault made place second ne =
        rw (place ∙ sym at, second, ← at, ← second_at (λ i. (r i).second) fault.number (get_or cut k 0) ne)
        (told_index (at_fault (listed_fault r rule cut) k (length cut) fits.0 h.none (pass_fault made) ne) (rw (ne_eqb fault.number 0 ne)) h)

  pub pass_end : (k : ℕ) {values : List ℕ} → Pass k values → min (length before) (length records) ≤ k → Told clear values
  pass_end k h le =
      let e : k ≡ length cut = omega (arith, h.within, length-take (length before) records) in
      told_index (at_end (listed_fault r rule cut) k (length cut) e h.none) (sym e) h
