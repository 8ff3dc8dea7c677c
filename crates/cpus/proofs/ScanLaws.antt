-- SPDX-License-Identifier: BSD-2-Clause OR GPL-2.0-or-later
-- What is gathered of a list of records is what their places tell. Assumes nothing.
use mathlib.Core.Path.{◌≡◌, refl, sym, ap, ◌∙◌, fun_ext}
use mathlib.Core.Bool.{Bool, true, false, cond}
use mathlib.Core.List.{List, map}
use Prim.Native.Nat.{ℕ, ◌<◌}
use lib.Dec.{eqb}
use lib.ListN.{length, get_or}
use lib.Seq.{take-length}
use borrow.Author.Tests.{eq-eqb, eqb-true}
use Rattle.laws.specs.answers.Fault.{first_fault, with_second}
use Rattle.laws.specs.answers.Search.{any_below, count_below, list_below, is_among}
use Rattle.laws.specs.answers.Listed.{laid_over, fault_of_member}
use Rattle.laws.proofs.DecideLaws.{Decides, then_decides, any_decides}
use Rattle.laws.proofs.OrElseLaws.{told_number}
use Rattle.laws.proofs.GatherLaws.{gathered_seen, first_same}
use Rattle.laws.proofs.ListedLaws.{list_before, first_listed}
use Rattle.tables.specs.answers.Lookup.{lookup}
use Rattle.property_index.specs.declared.Key.{Key}
use Rattle.property_index.specs.facts.Key.{key_name}
use Rattle.property_index.specs.answers.Index.{indexed_at}
use Rattle.cpus.specs.declared.CpuNumbers.{CpuNumbers}
use Rattle.cpus.specs.facts.Told.{CpuReading}
use Rattle.cpus.specs.answers.Numbers.{reading_from, reading_at, reading_of, unless_seen, listed_fault, first_index, first_record, numbers_over}

-- what place i that passes p breaks, 0 where nothing, given the readings of all
unfoldable pub gather_fault : (ℕ → Bool) → (ℕ → CpuReading) → ℕ → ℕ → ℕ
gather_fault p r rule i =
    cond (p i) (unless_seen rule (any_below (λ j. cond (p j) (eqb (r j).value (r i).value) false) i) (r i)).number 0

-- the places that pass p, listed: their first fault
module _ (p : ℕ → Bool) (r : ℕ → CpuReading) (rule n : ℕ) where
  -- what place i breaks, given the numbers of the places listed before it
  abbrev own_fault : ℕ → ℕ → ℕ
  own_fault k i = (unless_seen rule (is_among (map (λ j. (r j).value) (list_below p i)) (r i).value) (r i)).number

  listed_own : (k : ℕ) → k < length (list_below p n) → listed_fault r rule (list_below p n) k ≡ own_fault k (get_or (list_below p n) k 0)
  unfolding listed_fault
  listed_own k lt =
      let q = r (get_or (list_below p n) k 0) in
      ap (λ (l : List ℕ). (unless_seen rule (is_among (map (λ j. (r j).value) l) q.value) q).number) (list_before p n k lt)

  own_gathered : (i : ℕ) → cond (p i) (own_fault (count_below p i) i) 0 ≡ gather_fault p r rule i
  unfolding gather_fault
  own_gathered i =
      ap (λ (s : Bool). cond (p i) (unless_seen rule s (r i)).number 0)
      (gathered_seen p (λ j. (r j).value) (λ j. eqb (r j).value (r i).value) (r i).value i (λ j _ _. refl))

  pub first_gathered : first_record r rule (list_below p n) ≡ with_second (λ i. (r i).second) (first_fault (gather_fault p r rule) n)
  unfolding first_record
  first_gathered =
      ap (with_second (λ i. (r i).second))
      (ap (fault_of_member (list_below p n))
      (first_same (listed_fault r rule (list_below p n)) (λ k. own_fault k (get_or (list_below p n) k 0)) (length (list_below p n))
      (λ k lt _. listed_own k lt))
      ∙ first_listed p own_fault n
      ∙ first_same (λ i. cond (p i) (own_fault (count_below p i) i) 0) (gather_fault p r rule) n (λ i _ _. own_gathered i))

-- where the gathering tells nothing, the buffer holds the numbers of all
pub numbers_clear :
    (r : ℕ → CpuReading) (rule : ℕ) (records before : List ℕ) →
    (first_record r rule records).number ≡ 0 →
    numbers_over r rule records before ≡ laid_over (map (λ i. (r i).value) records) before
unfolding first_record numbers_over
numbers_clear r rule records before z = rw (eq-eqb (first_index r rule records).number 0 (sym (told_number _ _) ∙ z), take-length records)

-- an index of properties that tells what a lookup finds gives the same readings
pub same_reading :
    (w : CpuNumbers) (props pool index : List ℕ) →
    ((i : ℕ) (key : Key) → indexed_at props index i key ≡ lookup props pool i (key_name key)) →
    reading_at w props pool index ≡ reading_of w props pool
unfolding reading_of
same_reading w props pool index same = fun_ext (λ i. ap (reading_from w pool) (fun_ext (same i)))

-- the places that pass p, of which none before i breaks a rule
module _ (p : ℕ → Bool) (r : ℕ → CpuReading) (rule : ℕ) where
  sound_reading : (i : ℕ) → p i ≡ true → gather_fault p r rule i ≡ 0 → (r i).number ≡ 0
  unfolding gather_fault
  sound_reading i e z = go (eqb (r i).number 0) refl (rw e at z)
    where
      seen : Bool
      seen = any_below (λ j. cond (p j) (eqb (r j).value (r i).value) false) i

      go : (b : Bool) → eqb (r i).number 0 ≡ b → (unless_seen rule seen (r i)).number ≡ 0 → (r i).number ≡ 0
      go true q h = eqb-true (r i).number 0 q
      go false q h = rw q at h

  -- a number was seen exactly where an earlier place, with a sound reading, has it
  pub seen_decides :
      {P : ℕ → Type 0} (i : ℕ) →
      ((j : ℕ) → j < i → gather_fault p r rule j ≡ 0) →
      ((j : ℕ) → (r j).number ≡ 0 → Decides (eqb (r j).value (r i).value) (P j)) →
      Decides (any_below (λ j. cond (p j) (eqb (r j).value (r i).value) false) i) ((j : ℕ) × (j < i) × ((p j ≡ true) × P j))
  seen_decides {P} i none same =
      any_decides (λ j. cond (p j) (eqb (r j).value (r i).value) false) i
      (λ j lt. then_decides (λ e. e, λ e. e) (λ e. same j (sound_reading j e (none j lt))))
