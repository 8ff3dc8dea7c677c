-- SPDX-License-Identifier: BSD-2-Clause OR GPL-2.0-or-later
-- `number_after` meets its contract: what follows the word is read as a number. Assumes nothing.
use Rattle.std.proofs.Common.{rules, tests, Bool, true, false, not}
use Rattle.std.proofs.lemmas.Iterator.{YieldsList-from_slice, YieldsList-from_zip}
use Rattle.std.proofs.lemmas.Iterator.Search.{any_from_yields_List}
use mathlib.Core.Path.{◌≡◌, ap, ◌∙◌}
use lib.ListN.{length, take}
use Rattle.names.specs.answers.Name.{starts_with, number_of}
use Rattle.names.specs.steps.Name.{number_after}
use Rattle.names.proofs.NameLaws.{starts_short, starts_long, differ}
use Rattle.names.proofs.number_after.Goals as goal
use Rattle.names.proofs.number_after.Goals.{After-any}

-- what the search over the bytes tells
told : (c : After-any) → starts_with c.args.word.now c.args.name.now ≡ not c.any.result
told c =
    let word = c.args.word.now in
    let name = c.args.name.now in
    let head = c.in_ok-start.ensures.cases in
    let start = c.iter.ensures.rest ∙ head.1 in
    let found = any_from_yields_List differ c.any.new.self _ c.any.result c.any.ensures.ran
    (YieldsList-from_zip (YieldsList-from_slice (take (length word) name) (rw c.zip.ensures.first start)) (YieldsList-from_slice word (cc)))
    (λ x b q k. search (rules, tests)) in
    twice (starts_with word name) (found ∙ starts_long word name head.0)
  where
    twice : (s : Bool) {r : Bool} → r ≡ not s → s ≡ not r
    twice true e = rw e
    twice false e = rw e

pub returns-in_err-start : goal.returns-in_err-start
unfolding number_after
returns-in_err-start c = rw (c.from_residual.ensures, starts_short _ _ c.in_err-start.ensures.cases)

pub returns-then-any : goal.returns-then-any
unfolding number_after
returns-then-any c = rw (told (goal.at.returns-then-any c).After-any ∙ ap not c.if-any.true)

pub returns : goal.returns
unfolding number_after
returns c =
    rw (told (goal.at.returns c).After-any ∙ ap not c.if-any.false)
    (c.number_of.ensures ∙ ap number_of c.in_ok-start.ensures.cases.2)
