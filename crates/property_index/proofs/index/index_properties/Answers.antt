-- SPDX-License-Identifier: BSD-2-Clause OR GPL-2.0-or-later
-- `index_properties` meets its contract: before property k, the table has those below k noted. Assumes nothing.
use mathlib.Core.Path.{refl, sym, ◌∙◌}
use native.Mathlib.Omega.{arith}
use Rattle.std.proofs.Common.{rules}
use Rattle.property_index.specs.answers.Index.{indexed_below}
use Rattle.property_index.proofs.CodeLaws.{keys_more, words_rest, words_within, words_at, all_noted}
use Rattle.property_index.proofs.IndexLaws.{blank_indexes}
use Rattle.property_index.proofs.index.index_properties.Goals as goal

pub loop-k-init : goal.loop-k-init
unfolding indexed_below
loop-k-init c = search rules

pub loop-k-preserved : goal.loop-k-preserved
loop-k-preserved c =
    let a = c.args in
    let inv = c.loop-k.invariant in
    let words = c.in-Some.words.now in
    let steps = c.in-Some.ensures.steps in
    let left = sym inv.rest ∙ steps.0.0.1.0 in
    let whole = steps.0.0.1.1 ∙ inv.whole in
    let at = words_at a.props.now _ words _ left whole in
    rw steps.2
    (record {
      whole = steps.0.0.0 ∙ inv.whole;
      rest = words_rest a.props.now _ words _ left whole;
      within = words_within a.props.now _ words _ left whole inv.within;
      left = omega (arith, inv.left, steps.0.1);
      noted =
          keys_more _ _ _ _ inv.noted (c.wide.ensures ∙ at 0 _ (omega arith) (omega arith)) (c.wide-in-loop-k.ensures ∙ at 1 _ (omega arith) (omega arith))
          (c.wide-in-loop-k-2.ensures ∙ at 2 _ (omega arith) (omega arith)) (rw steps.1 at c.note_key.ensures);
    })

pub returns : goal.returns
returns c =
    let inv = c.loop-k.invariant in
    let all = all_noted c.args.props.now _ inv.left inv.within inv.rest inv.whole (λ more. (c.in-None.ensures.steps.0 more).1.0) in
    rw (inv.noted, all) (record { table = refl; index = blank_indexes _ _ _ })
