-- SPDX-License-Identifier: BSD-2-Clause OR GPL-2.0-or-later
-- A number of each cpu record of a list, its `reg` or its phandle, gathered in one pass over the list.
use Rattle.tables.specs.declared.Found.{Found}
use Rattle.std.specs.Prelude.{cond, Bool, List, map, ℕ, eqb, length, get_or, take, Option, None, Some}
use Rattle.laws.specs.facts.Limits.{no_property}
use Rattle.laws.specs.facts.Told.{Fault}
use Rattle.laws.specs.answers.Search.{is_among}
use Rattle.laws.specs.answers.Listed.{laid_over, fault_of_member, members_passed}
use Rattle.laws.specs.answers.Fault.{first_fault, with_second}
use Rattle.tables.specs.answers.Lookup.{lookup, record_of}
use Rattle.property_index.specs.declared.Key.{Key}
use Rattle.property_index.specs.declared.Key.TheVariants.{Reg, Phandle, DeviceType}
use Rattle.property_index.specs.answers.Index.{indexed_at}
use Rattle.property_index.specs.facts.Key.{key_name}
use Rattle.cpus.specs.facts.Told.{CpuReading}
use Rattle.cpus.specs.declared.CpuNumbers.{CpuNumbers}
use Rattle.cpus.specs.answers.Cell.{value_in, cell_in, is_number, reg_in, phandle_in, cpu_cell}
use Rattle.cpus.specs.declared.CpuNumbers.TheVariants as wanted

abbrev pub cpu_reading : (number second value : ℕ) → CpuReading
cpu_reading number second value = record { number = number; second = second; value = value }

-- a value's number, and the second place of its repeat; or the rule that is broken where it is not there, told of a property
abbrev pub number_or : ℕ → Option Found → ℕ → Option ℕ → CpuReading
number_or rule found repeated (Some n) = cpu_reading 0 repeated n
number_or rule found repeated None = cpu_reading rule (record_of found) 0

-- What a cpu record alone breaks, 0 where nothing, the second place of what is told of it, and its number, from where its properties stand.
-- A repeated `reg` is told of no property, a repeated phandle of the `phandle`.
unfoldable pub reading_from : CpuNumbers → List ℕ → (Key → Option Found) → CpuReading
reading_from (wanted.Regs cells width) pool at =
    cond (is_number (cell_in pool (at DeviceType)) cpu_cell)
    (number_or 12 (at Reg) no_property (reg_in width (value_in pool cells (at Reg))))
    (cpu_reading 11 (record_of (at DeviceType)) 0)
reading_from wanted.Phandles pool at = number_or 17 (at Phandle) (record_of (at Phandle)) (phandle_in (cell_in pool (at Phandle)))

-- record i, by an index of properties; and looked up in the property table
abbrev pub reading_at : CpuNumbers → List ℕ → List ℕ → List ℕ → ℕ → CpuReading
reading_at w props pool index i = reading_from w pool (indexed_at props index i)

unfoldable pub reading_of : CpuNumbers → List ℕ → List ℕ → ℕ → CpuReading
reading_of w props pool i = reading_from w pool (λ key. lookup props pool i (key_name key))

-- the rule that a repeated number breaks
abbrev pub repeat_rule : CpuNumbers → ℕ
repeat_rule (wanted.Regs cells width) = 13
repeat_rule wanted.Phandles = 17

-- a reading, refused where its number was seen
abbrev pub unless_seen : ℕ → Bool → CpuReading → CpuReading
unless_seen rule seen r = cond (eqb r.number 0) (cond seen (cpu_reading rule r.second r.value) r) r

-- the records of a list, each with a reading
module _ (r : ℕ → CpuReading) (rule : ℕ) (records : List ℕ) where
  -- what the record at index k breaks, 0 where nothing
  unfoldable pub listed_fault : ℕ → ℕ
  listed_fault k =
      let q = r (get_or records k 0) in
      (unless_seen rule (is_among (map (λ i. (r i).value) (take k records)) q.value) q).number

  -- the first index at which a rule is broken, and the same told of the record, with its second place
  abbrev pub first_index : Fault
  first_index = first_fault listed_fault (length records)

  unfoldable pub first_record : Fault
  first_record = with_second (λ i. (r i).second) (fault_of_member records first_index)

  -- a buffer after the gathering: the numbers of the records passed, over what it held
  unfoldable pub numbers_over : List ℕ → List ℕ
  numbers_over before = laid_over (map (λ i. (r i).value) (take (members_passed records first_index) records)) before
