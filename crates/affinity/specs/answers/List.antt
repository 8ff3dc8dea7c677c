-- SPDX-License-Identifier: BSD-2-Clause OR GPL-2.0-or-later
-- What is answered of a list of MPIDRs: numbers 28, 29 and 30.
use Rattle.std.specs.Prelude.{Bool, cond, List, ℕ, eqb, ltb, length, get_or}
use Rattle.laws.specs.facts.Limits.{max_cpus}
use Rattle.laws.specs.facts.Told.{Fault}
use Rattle.laws.specs.answers.Fault.{told, or_else, first_fault}
use Rattle.laws.specs.answers.Search.{is_among}
use Rattle.affinity.specs.facts.Told.{ListHash}
use Rattle.affinity.specs.facts.Told.{ListMask}
use Rattle.affinity.specs.facts.Told.{ListSlot}
use Rattle.affinity.specs.answers.Level.{is_affine}
use Rattle.affinity.specs.answers.Mask.{mask_of}
use Rattle.affinity.specs.facts.List.{no_hash}
use Rattle.affinity.specs.answers.Hash.{hash_of, slot_in}

-- 28: empty or more than 256
abbrev pub length_fault : ℕ → ℕ
length_fault n = cond (eqb n 0) 28 (cond (ltb max_cpus n) 28 0)

-- 29: a bit outside the affinity bits
abbrev pub bit_fault : ℕ → ℕ
bit_fault mpidr = cond (is_affine mpidr) 0 29

-- 29 told of the lowest index
unfoldable pub first_outside : List ℕ → Fault
first_outside list = first_fault (λ i. bit_fault (get_or list i 0)) (length list)

-- the first of 28 and 29
unfoldable pub list_fault : List ℕ → Fault
list_fault list = or_else (told (length_fault (length list)) 0) (first_outside list)

-- the answer to "the mask of a list": in a refusal every other result is 0
unfoldable pub mask_answer : List ℕ → ListMask
mask_answer list =
    cond (eqb (list_fault list).number 0) (record { number = 0; place = 0; mask = mask_of list })
    (record { number = (list_fault list).number; place = (list_fault list).place; mask = 0 })

-- the answer to "the hash of a list", with the same refusals
unfoldable pub hash_answer : List ℕ → ListHash
hash_answer list =
    cond (eqb (list_fault list).number 0) (record { number = 0; place = 0; hash = hash_of list })
    (record { number = (list_fault list).number; place = (list_fault list).place; hash = no_hash })

-- a slot behind a fault: the fault, then 30 for an unknown MPIDR, else the slot
abbrev pub slot_behind : Fault → Bool → ℕ → ListSlot
slot_behind f known slot =
    cond (eqb f.number 0)
    (cond known (record { number = 0; place = 0; slot = slot }) (record { number = 30; place = 0; slot = 0 }))
    (record { number = f.number; place = f.place; slot = 0 })

-- the answer to "one MPIDR's slot in a list": 28, 29, then 30 for an unknown one
unfoldable pub slot_answer : ℕ → List ℕ → ListSlot
slot_answer mpidr list = slot_behind (list_fault list) (is_among list mpidr) (slot_in list mpidr)
