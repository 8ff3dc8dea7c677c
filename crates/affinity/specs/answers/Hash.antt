-- SPDX-License-Identifier: BSD-2-Clause OR GPL-2.0-or-later
-- The hash of a mask and of a list, and the slot under any hash.
use Rattle.std.specs.Prelude.{List, [], ◌∷◌, ℕ, ◌+◌, ◌-◌, ◌%◌, ◌^◌, get_or}
use Rattle.laws.specs.facts.Sum.{sum_below}
use Rattle.affinity.specs.declared.Hash.{Hash}
use Rattle.affinity.specs.answers.Level.{low_of, width_of}
use Rattle.affinity.specs.facts.Level.{begin_of, level_part}
use Rattle.affinity.specs.answers.Mask.{mask_of}
use Rattle.affinity.specs.facts.Slot.{slot_of}

-- the widths of all levels below a level
abbrev pub bits_below : ℕ → ℕ → ℕ
bits_below mask = sum_below (λ level. width_of (level_part mask level))

unfoldable pub shift_of : ℕ → ℕ → ℕ
shift_of mask level = begin_of level + low_of (level_part mask level) - bits_below mask level

unfoldable pub shifts_of : ℕ → List ℕ
shifts_of mask = shift_of mask 0 ∷ shift_of mask 1 ∷ shift_of mask 2 ∷ shift_of mask 3 ∷ []

unfoldable pub hash_of_mask : ℕ → Hash
hash_of_mask mask = record { mask = mask; shifts = shifts_of mask; bits = bits_below mask 4 }

-- the hash of a list of MPIDRs
abbrev pub hash_of : List ℕ → Hash
hash_of list = hash_of_mask (mask_of list)

-- the slot of an MPIDR in a list of MPIDRs
abbrev pub slot_in : List ℕ → ℕ → ℕ
slot_in list mpidr = slot_of (hash_of list) mpidr

abbrev pub below64 : List ℕ → List ℕ
below64 s = get_or s 0 0 % 64 ∷ get_or s 1 0 % 64 ∷ get_or s 2 0 % 64 ∷ get_or s 3 0 % 64 ∷ []

-- the slot under a hash of any make: its shifts modulo 64, and the slot modulo 2 ^ 32, which changes nothing under the hash of a mask
unfoldable pub slot_guarded : Hash → ℕ → ℕ
slot_guarded h mpidr = slot_of (record { mask = h.mask; shifts = below64 h.shifts; bits = h.bits }) mpidr % 2 ^ 32
