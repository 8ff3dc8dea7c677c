-- SPDX-License-Identifier: BSD-2-Clause OR GPL-2.0-or-later
-- What an answer about a list tells, in numbers; in a refusal every other result is 0.
use Rattle.std.specs.Prelude.{ℕ, Result, Ok, Err}
use Rattle.laws.specs.declared.rules.Broken.{Broken}
use Rattle.laws.specs.facts.Told.{number_of}
use Rattle.affinity.specs.declared.Hash.{Hash}
use Rattle.affinity.specs.facts.List.{no_hash}
use Rattle.affinity.specs.facts.Told.{ListMask, ListHash, ListSlot}

abbrev pub mask_told : Result ℕ Broken → ListMask
mask_told (Ok mask) = record { number = 0; place = 0; mask = mask }
mask_told (Err r) = record { number = number_of r.rule; place = r.place; mask = 0 }

abbrev pub hash_told : Result Hash Broken → ListHash
hash_told (Ok hash) = record { number = 0; place = 0; hash = hash }
hash_told (Err r) = record { number = number_of r.rule; place = r.place; hash = no_hash }

abbrev pub slot_told : Result ℕ Broken → ListSlot
slot_told (Ok slot) = record { number = 0; place = 0; slot = slot }
slot_told (Err r) = record { number = number_of r.rule; place = r.place; slot = 0 }
