-- SPDX-License-Identifier: BSD-2-Clause OR GPL-2.0-or-later
-- What holds of the call on a list of MPIDRs in bytes (02, W6), for every input.
use Rattle.std.specs.Prelude.{◌≡◌, List, ℕ, ◌%◌, length}
use Rattle.laws.specs.facts.First.{First}
use Rattle.wire.specs.facts.Bytes.{number_size, numbers_in}
use Rattle.affinity.specs.facts.Told.{ListSlot}
use Rattle.affinity.specs.facts.List.{list_stage, ListRule, SlotRule, SlotAccepted}

-- rules 28 to 30 of one MPIDR asked in a list of bytes, eight for each MPIDR: those of the list, and 28 where the bytes are no multiple of eight
pub data ByteSlotRule (bytes : List ℕ) (mpidr : ℕ) : ℕ → ℕ → Type 0 where
  list_length_part : (length bytes % number_size ≡ 0 → ⊥) → ByteSlotRule bytes mpidr 28 0
  of_numbers : {n p : ℕ} → SlotRule (ListRule (numbers_in bytes)) (numbers_in bytes) mpidr n p → ByteSlotRule bytes mpidr n p

-- a refusal tells the first broken rule, and no slot
pub record ByteSlotRefused (bytes : List ℕ) (mpidr : ℕ) (r : ListSlot) : Type 0 where
  pub first : First list_stage (ByteSlotRule bytes mpidr) r.number r.place
  pub slot : r.slot ≡ 0

-- an acceptance: whole MPIDRs, and all that the list's acceptance says
pub record ByteSlotAccepted (bytes : List ℕ) (mpidr : ℕ) (r : ListSlot) : Type 0 where
  pub whole : length bytes % number_size ≡ 0
  pub of_list : SlotAccepted (numbers_in bytes) mpidr r

pub record ByteSlotDemands (bytes : List ℕ) (mpidr : ℕ) (r : ListSlot) : Type 0 where
  pub refused : (r.number ≡ 0 → ⊥) → ByteSlotRefused bytes mpidr r
  pub sound : r.number ≡ 0 → ByteSlotAccepted bytes mpidr r
