-- SPDX-License-Identifier: BSD-2-Clause OR GPL-2.0-or-later
-- What the name reader answers.
use Rattle.std.specs.Prelude.{Bool, true, false, cond, List, [], ◌∷◌, ℕ, ◌+◌, ◌-◌, ◌*◌, eqb, ltb, length, get_or, drop, Some, None, Option}
use Rattle.names.specs.declared.TopologyName.{TopologyName}
use Rattle.names.specs.declared.TopologyName.TheVariants.{Socket, Cluster, Core, Thread, Other}
use Rattle.names.specs.facts.Kind.{Kind, word}

-- a kind with its number, as the reader answers it
abbrev pub named_as : Kind → ℕ → TopologyName
named_as Kind.socket n = Socket n
named_as Kind.cluster n = Cluster n
named_as Kind.core n = Core n
named_as Kind.thread n = Thread n

unfoldable pub starts_with : List ℕ → List ℕ → Bool
starts_with [] name = true
starts_with (w ∷ ws) [] = false
starts_with (w ∷ ws) (b ∷ bs) = cond (eqb b w) (starts_with ws bs) false

-- the number v followed by decimal digits
unfoldable pub digits_from : ℕ → List ℕ → Option ℕ
digits_from v [] = Some v
digits_from v (d ∷ ds) = cond (ltb d 48) None (cond (ltb 57 d) None (digits_from (v * 10 + (d - 48)) ds))

-- one to four decimal digits, with no leading zero except 0 itself
unfoldable pub number_of : List ℕ → Option ℕ
number_of ds =
    cond (eqb (length ds) 0) None
    (cond (ltb 4 (length ds)) None (cond (cond (ltb 1 (length ds)) (eqb (get_or ds 0 0) 48) false) None (digits_from 0 ds)))

-- a kind with its number, or Other where there is no number
abbrev pub with_number : Kind → Option ℕ → TopologyName
with_number kind (Some n) = named_as kind n
with_number kind None = Other

-- what follows the kind's word, read as a number
abbrev pub after_word : Kind → List ℕ → TopologyName
after_word kind name = with_number kind (number_of (drop (length (word kind)) name))

unfoldable pub name_of : List ℕ → TopologyName
name_of name =
    cond (starts_with (word Kind.socket) name) (after_word Kind.socket name)
    (cond (starts_with (word Kind.cluster) name) (after_word Kind.cluster name)
    (cond (starts_with (word Kind.core) name) (after_word Kind.core name)
    (cond (starts_with (word Kind.thread) name) (after_word Kind.thread name) Other)))
