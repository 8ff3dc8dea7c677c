-- SPDX-License-Identifier: BSD-2-Clause OR GPL-2.0-or-later
-- The slot of an MPIDR under a hash (01, "The slot").
use Rattle.std.specs.Prelude.{ℕ, ◌*◌, ◌/◌, ◌^◌, get_or}
use Rattle.std.specs.Int.Bits.{bit_and, bit_or}
use Rattle.affinity.specs.declared.Hash.{Hash}
use Rattle.affinity.specs.facts.Level.{begin_of}

-- a level's bits that are ones in the mask, moved right by a shift from where they stand
unfoldable pub level_slot : ℕ → ℕ → ℕ → ℕ → ℕ
level_slot mask mpidr level shift = bit_and (bit_and mpidr mask) (255 * 2 ^ begin_of level) / 2 ^ shift

-- the slot: the bits of the MPIDR that are ones in the mask, each level's moved right by its shift, joined
unfoldable pub slot_of : Hash → ℕ → ℕ
slot_of h mpidr =
    bit_or
    (bit_or
    (bit_or (level_slot h.mask mpidr 0 (get_or h.shifts 0 0)) (level_slot h.mask mpidr 1 (get_or h.shifts 1 0)))
    (level_slot h.mask mpidr 2 (get_or h.shifts 2 0)))
    (level_slot h.mask mpidr 3 (get_or h.shifts 3 0))
