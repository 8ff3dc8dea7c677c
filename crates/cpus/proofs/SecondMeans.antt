-- SPDX-License-Identifier: BSD-2-Clause OR GPL-2.0-or-later
-- The second place of what is told of cpu nodes and of their phandles. Assumes nothing.
use Rattle.std.specs.Prelude.{None, Option, Some}
use Rattle.cpus.specs.declared.Cells.{Cells}
use mathlib.Core.Path.{◌≡◌, refl, sym, ◌∙◌}
use mathlib.Core.Bool.{Bool, true, false, cond}
use mathlib.Core.Logic.{◌⊎◌, inl, inr, ⊎_elim}
use mathlib.Core.List.{List, map}
use Prim.Native.Nat.{ℕ, zero, suc}
use lib.Dec.{eqb, ltb}
use lib.ListN.{length, get_or, take}
use Rattle.laws.specs.facts.First.{has}
use Rattle.laws.specs.facts.Limits.{max_cpus, no_property}
use Rattle.laws.specs.facts.Told.{Fault}
use Rattle.laws.specs.answers.Fault.{told}
use Rattle.laws.specs.answers.Listed.{fault_of_member}
use Rattle.laws.specs.answers.Search.{is_among}
use Rattle.laws.proofs.FaultLaws.{told_at, first_is}
use Rattle.laws.proofs.OrElseLaws.{told_number}
use Rattle.tables.specs.facts.Binding.{reg_key, phandle_key, device_type_key, cpus_word, address_cells_key, size_cells_key}
use Rattle.tables.specs.facts.Board.{Board, name_offset, name_length}
use Rattle.tables.specs.facts.Second.{Concerns, Second}
use Rattle.tables.specs.answers.Lookup.{lookup, record_of}
use Rattle.tables.specs.answers.Range.{range_is}
use Rattle.tables.proofs.SecondLaws.{spoken, HasSecond, second_found, unspoken, told_second, else_second, with_second_lem}
use Rattle.cpus.specs.declared.CpuNumbers.{CpuNumbers}
use Rattle.cpus.specs.declared.CpuNumbers.TheVariants.{Regs, Phandles}
use Rattle.cpus.specs.facts.Told.{CpuReading}
use Rattle.cpus.specs.answers.Cell.{value_in, cell_in, cell_of, is_number, reg_in, phandle_in, cpu_cell}
use Rattle.cpus.specs.answers.Check.{address_cells, name_fault, address_fault, size_fault, told_of_root, root_fault, cpu_count, count_fault, cpu_fault}
use Rattle.cpus.specs.answers.Check.{cpu_list, reg_cells, cpus_fault, phandles_fault}
use Rattle.cpus.specs.answers.Numbers.{cpu_reading, number_or, reading_from, reading_of, repeat_rule}
use Rattle.cpus.specs.answers.Numbers.{unless_seen, listed_fault, first_index, first_record}
use Rattle.cpus.proofs.NumberPassLaws.{unless_same}

module _ (b : Board) where
  -- what is told of one of record 0's properties
  of_root : (v : ℕ) {n : ℕ} {key : List ℕ} → Concerns n key → (v ≡ 0) ⊎ (v ≡ n) → HasSecond b (told_of_root b v key)
  of_root v {n} {key} c either = with_second_lem b (λ i. record_of (lookup b.props b.pool i key)) (told v 0) (at v either)
    where
      at :
          (v : ℕ) →
          (v ≡ 0) ⊎ (v ≡ n) →
          ((told v 0).number ≡ 0 → ⊥) →
          Second b (told v 0).number (told v 0).place (record_of (lookup b.props b.pool (told v 0).place key))
      at zero e ne = absurd (ne refl)
      at (suc v) e ne = ⊎_elim (λ z. absurd (ne z)) (λ q. rw q (second_found b 0 c)) e

  root_second : HasSecond b (root_fault b)
  unfolding root_fault
  root_second =
      else_second b (told (name_fault b) 0) _
      (told_second b (name_fault b) 0 (name (range_is b.pool (name_offset b.nodes 0) (name_length b.nodes 0) cpus_word)))
      (else_second b (told_of_root b (address_fault (address_cells b)) address_cells_key) (told_of_root b (size_fault cell) size_cells_key)
      (of_root (address_fault (address_cells b)) Concerns.address_cells (address (address_cells b)))
      (of_root (size_fault cell) Concerns.size_cells (size (is_number cell 0))))
    where
      cell : Option ℕ
      cell = cell_of b.props b.pool 0 size_cells_key

      name : (t : Bool) → has spoken (cond t 0 9) ≡ false
      name true = refl
      name false = refl

      address : (r : Option Cells) → (address_fault r ≡ 0) ⊎ (address_fault r ≡ 36)
      address (Some c) = inl refl
      address None = inr refl

      size : (t : Bool) → (◌≡◌ {A = ℕ} (cond t 0 37) 0) ⊎ (◌≡◌ {A = ℕ} (cond t 0 37) 37)
      size true = inl refl
      size false = inr refl

  -- what is told of a cpu record, given whether its number was seen
  abbrev Says : ℕ → CpuReading → Type 0
  Says i x = (x.number ≡ 0 → ⊥) → Second b x.number i x.second

  reading_second : (w : CpuNumbers) (i : ℕ) (seen : Bool) → Says i (unless_seen (repeat_rule w) seen (reading_of w b.props b.pool i))
  unfolding reading_of reading_from
  reading_second (Regs cells width) i seen =
      go seen (is_number (cell_in b.pool (lookup b.props b.pool i device_type_key)) cpu_cell)
      (reg_in width (value_in b.pool cells (lookup b.props b.pool i reg_key)))
    where
      go :
          (seen kind : Bool) (v : Option ℕ) →
          Says i
          (unless_seen 13 seen
          (cond kind (number_or 12 (lookup b.props b.pool i reg_key) no_property v)
          (cpu_reading 11 (record_of (lookup b.props b.pool i device_type_key)) 0)))
      go seen false v ne = second_found b i Concerns.device_type
      go seen true None ne = second_found b i Concerns.reg
      go true true (Some m) ne = unspoken b i refl refl
      go false true (Some m) ne = absurd (ne refl)
  reading_second Phandles i seen = go seen (phandle_in (cell_in b.pool (lookup b.props b.pool i phandle_key)))
    where
      go :
          (seen : Bool) (v : Option ℕ) →
          Says i
          (unless_seen 17 seen
          (number_or 17 (lookup b.props b.pool i phandle_key) (record_of (lookup b.props b.pool i phandle_key)) v))
      go seen None ne = second_found b i Concerns.phandle
      go true (Some h) ne = second_found b i Concerns.phandle
      go false (Some h) ne = absurd (ne refl)

  -- and of the first of a list of them
  record_second : (w : CpuNumbers) (records : List ℕ) → HasSecond b (first_record (reading_of w b.props b.pool) (repeat_rule w) records)
  unfolding first_record listed_fault
  record_second w records = with_second_lem b (λ i. (r i).second) (fault_of_member records first) at
    where
      r : ℕ → CpuReading
      r = reading_of w b.props b.pool

      first : Fault
      first = first_index r (repeat_rule w) records

      at :
          ((fault_of_member records first).number ≡ 0 → ⊥) →
          Second b (fault_of_member records first).number (fault_of_member records first).place (r (fault_of_member records first).place).second
      at ne =
          let some : first.number ≡ 0 → ⊥ = λ z. ne (told_number _ _ ∙ z) in
          let i = get_or records first.place 0 in
          let seen = is_among (map (λ j. (r j).value) (take first.place records)) (r i).value in
          let e = ((first_is (listed_fault r (repeat_rule w) records) (length records)).found some).1 in
          let second = reading_second w i seen (λ z. some (sym e ∙ z)) in
          rw (told_at first.number i some, ← e, ← (unless_same (repeat_rule w) seen (r i)).1) second

  pub cpus_second : HasSecond b (cpus_fault b)
  unfolding cpus_fault
  cpus_second =
      else_second b (root_fault b) _ root_second
      (else_second b (told (count_fault (cpu_count b)) 0) (cpu_fault b)
      (told_second b (count_fault (cpu_count b)) 0 (count (eqb (cpu_count b) 0) (ltb max_cpus (cpu_count b))))
      (record_second (Regs (reg_cells b) b.width) (cpu_list b)))
    where
      count : (t s : Bool) → has spoken (cond t 10 (cond s 10 0)) ≡ false
      count true s = refl
      count false true = refl
      count false false = refl

  pub phandles_second : HasSecond b (phandles_fault b)
  phandles_second = record_second Phandles (cpu_list b)
