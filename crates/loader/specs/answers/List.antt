-- SPDX-License-Identifier: BSD-2-Clause OR GPL-2.0-or-later
-- What the call on a list of MPIDRs in bytes answers.
use Rattle.std.specs.Prelude.{cond, List, ℕ, ◌%◌, eqb, length}
use Rattle.wire.specs.facts.Bytes.{number_size, numbers_in}
use Rattle.affinity.specs.facts.Told.{ListSlot}
use Rattle.affinity.specs.answers.List.{slot_answer}

-- 28 where the bytes are no multiple of eight, else what the library answers of the MPIDRs that they hold
unfoldable pub byte_slot : ℕ → List ℕ → ListSlot
byte_slot mpidr bytes =
    cond (eqb (length bytes % number_size) 0) (slot_answer mpidr (numbers_in bytes)) (record { number = 28; place = 0; slot = 0 })
