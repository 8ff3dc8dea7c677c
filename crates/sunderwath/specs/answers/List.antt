-- SPDX-License-Identifier: BSD-2-Clause OR GPL-2.0-or-later
-- The answers of the two calls on a list of MPIDRs.
use Rattle.std.specs.Prelude.{List, ℕ}
use Rattle.laws.specs.facts.Limits.{no_property}
use Rattle.affinity.specs.answers.List.{hash_answer, slot_answer}
use Rattle.affinity.specs.facts.List.{no_hash}
use Rattle.sunderwath.specs.answers.Answer.{answer_words}

abbrev pub hash_words : List ℕ → List ℕ
hash_words list =
    let a = hash_answer list in
    answer_words a.number a.place no_property 0 a.hash

abbrev pub slot_words : ℕ → List ℕ → List ℕ
slot_words mpidr list =
    let a = slot_answer mpidr list in
    answer_words a.number a.place no_property a.slot no_hash
