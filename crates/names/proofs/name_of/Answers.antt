-- SPDX-License-Identifier: BSD-2-Clause OR GPL-2.0-or-later
-- `name_of` meets its contract: a number after one word is the answer, and none after any is Other. Assumes nothing.
use mathlib.Core.Path.{sym, ◌∙◌}
use Rattle.names.specs.facts.Kind.{Kind}
use Rattle.names.proofs.AfterLaws.{after_name, after_none}
use Rattle.names.proofs.NameMeans.{name_says}
use Rattle.names.proofs.name_of.Goals as goal

pub returns-in-Some : goal.returns-in-Some
returns-in-Some c = let p = name_says (after_name _ Kind.socket _ (sym c.number_after.ensures ∙ c.in-Some.is)) in record { answer = p.0; says = p.1 }

pub returns-in-Some-number_after : goal.returns-in-Some-number_after
returns-in-Some-number_after c = let p = name_says (after_name _ Kind.cluster _ (sym c.number_after-2.ensures ∙ c.in-Some-number_after.is)) in record { answer = p.0; says = p.1 }

pub returns-in-Some-number_after-2 : goal.returns-in-Some-number_after-2
returns-in-Some-number_after-2 c = let p = name_says (after_name _ Kind.core _ (sym c.number_after-3.ensures ∙ c.in-Some-number_after-2.is)) in record { answer = p.0; says = p.1 }

pub returns-in-Some-number_after-3 : goal.returns-in-Some-number_after-3
returns-in-Some-number_after-3 c = let p = name_says (after_name _ Kind.thread _ (sym c.number_after-4.ensures ∙ c.in-Some-number_after-3.is)) in record { answer = p.0; says = p.1 }

pub returns : goal.returns
returns c =
    let p = name_says
    (after_none _
    (sym c.number_after.ensures ∙ c.in_default.is)
    (sym c.number_after-2.ensures ∙ c.in_default-number_after.is)
    (sym c.number_after-3.ensures ∙ c.in_default-number_after-2.is)
    (sym c.number_after-4.ensures ∙ c.in_default-number_after-3.is)) in
    record { answer = p.0; says = p.1 }
