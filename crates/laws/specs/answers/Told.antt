-- SPDX-License-Identifier: BSD-2-Clause OR GPL-2.0-or-later
-- What an answer tells, in numbers.
use Rattle.std.specs.Prelude.{ℕ, Option, None, Some, Result, Ok, Err}
use Rattle.laws.specs.declared.rules.Rule.{Rule}
use Rattle.laws.specs.declared.rules.Broken.{Broken}
use Rattle.laws.specs.declared.rules.Refusal.{Refusal}
use Rattle.laws.specs.facts.Limits.{no_property}
use Rattle.laws.specs.facts.Told.{Fault, number_of}

-- the second place
abbrev pub second_of : Option ℕ → ℕ
second_of None = no_property
second_of (Some k) = k

-- the number of the rule that is broken, 0 where none is
abbrev pub number_in : {A : Type 0} → Result A Rule → ℕ
number_in (Ok _) = 0
number_in (Err r) = number_of r

-- what is told of a refusal
abbrev pub told_of : Refusal → Fault
told_of r = record { number = number_of r.rule; place = r.place; second = second_of r.property }

-- what is told, whatever is answered where no rule is broken
abbrev pub told_in : {A : Type 0} → Result A Refusal → Fault
told_in (Ok _) = record { number = 0; place = 0; second = no_property }
told_in (Err r) = told_of r

-- what is told of no property
abbrev pub broken_in : {A : Type 0} → Result A Broken → Fault
broken_in (Ok _) = record { number = 0; place = 0; second = no_property }
broken_in (Err b) = record { number = number_of b.rule; place = b.place; second = no_property }
