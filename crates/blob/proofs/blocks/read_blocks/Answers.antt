-- SPDX-License-Identifier: BSD-2-Clause OR GPL-2.0-or-later
-- `read_blocks` meets its contract: the walk decides, and the tables are filled only where it is whole and they have room. Assumes nothing.
use Rattle.std.specs.Prelude.{Result, Ok, Err, MatchResult}
use mathlib.Core.Path.{◌≡◌, refl, sym, ap, ◌∙◌}
use Prim.Native.Nat.{ℕ}
use Rattle.laws.specs.declared.rules.Broken.{Broken}
use Rattle.stream.specs.declared.Walk.{Walk}
use Rattle.stream.specs.answers.Walk.{walk}
use Rattle.flat.specs.answers.Told.{blob_told}
use Rattle.flat.specs.answers.Answer.{walk_in}
use Rattle.blob.specs.steps.Blocks.{blocks}
use Rattle.blob.proofs.ReadLaws.{Left, filled_left}
use Rattle.blob.proofs.blocks.read_blocks.Goals as goal
use Rattle.blob.proofs.blocks.read_blocks.Goals.{After-fill}

-- what is whole where its error is made a broken rule was whole
was_whole : (r : Result Walk ℕ) {w : Walk} → MatchResult r (λ x. ◌≡◌ {A = Result Walk Broken} (Ok w) (Ok x)) (λ _. ⊥) → r ≡ Ok w
was_whole (Ok x) e = cc
was_whole (Err p) e = absurd e

-- what is left where the tables are filled
left :
    (c : After-fill) →
    let a = c.args in
    let b = blocks a.block.now a.start a.strings.now a.base in
    Left b a.nodes.now a.props.now (blob_told (Ok c.in_ok-counts.counts)) c.fill.new.nodes c.fill.new.props
left c =
    let a = c.args in
    let b = blocks a.block.now a.start a.strings.now a.base in
    let found : c.survey.result ≡ walk_in b = c.survey.ensures.walk ∙ ap (λ (n : ℕ). walk a.block.now n a.start) c.behind_zero.ensures in
    let whole = sym found ∙ was_whole c.survey.result c.in_ok-w.ensures.cases in
    filled_left b a.nodes.now a.props.now (rw whole c.in_ok-counts.ensures) c.requires.room refl (rw whole c.fill.ensures.nodes)
    (rw whole c.fill.ensures.props)

pub returns-clause-nodes : goal.returns-clause-nodes
returns-clause-nodes c = (left (goal.at.returns-clause-nodes c).After-fill).1.0

pub returns-clause-props : goal.returns-clause-props
returns-clause-props c = (left (goal.at.returns-clause-props c).After-fill).1.1
