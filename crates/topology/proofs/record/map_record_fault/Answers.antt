-- SPDX-License-Identifier: BSD-2-Clause OR GPL-2.0-or-later
-- `map_record_fault` meets its contract: 19, and else the first of 20 to 23. Assumes nothing.
use mathlib.Core.Path.{◌≡◌, refl, ap, ◌∙◌}
use Prim.Native.Nat.{ℕ, ◌*◌}
use Rattle.std.proofs.lemmas.Result.{err_from_is_err_and}
use Rattle.laws.specs.answers.Fault.{or_number}
use Rattle.laws.proofs.PassLaws.{or_told, or_next}
use Rattle.laws.proofs.SearchLaws.{true_false}
use Rattle.laws.proofs.ToldLaws.{rule_counts}
use Rattle.names.specs.declared.TopologyName.TheVariants.{Other}
use Rattle.tables.specs.facts.Board.{parent_word}
use Rattle.tables.proofs.CodePool.{word_zero}
use Rattle.cpumap.specs.answers.Number.{topology_number}
use Rattle.topology.specs.answers.Check.{kind_fault, shape_fault, map_record_fault}
use Rattle.topology.specs.answers.Siblings.{number_fault}
use Rattle.topology.proofs.CodeLaws.{zero_other, named_fault}
use Rattle.topology.proofs.record.map_record_fault.Goals as goal
use Rattle.topology.proofs.record.map_record_fault.Goals.{After-node_word-p, After-number_fault, in-Other, in_default}

-- the word read is the parent
parent :
    (c : After-node_word-p) → let a = c.args in c.node_word-p.result ≡ parent_word a.tables.now.nodes.now a.i
parent c =
    let a = c.args in c.node_word-p.ensures ∙ word_zero a.tables.now.nodes.now (3 * a.i)

-- the name is one
named : (c : After-node_word-p) → c.args.name ≡ Other → ⊥
named c e =
    elim c.match-matches.branch [
      | in-Other w ↦ true_false w.matches-is c.if-matches.false
      | in_default w ↦ w.in_default.not-Other e
    ]

rest :
    (c : After-node_word-p) →
    let a = c.args in
    let nodes = a.tables.now.nodes.now in
    let pool = a.tables.now.pool.now in
    let p = c.node_word-p.result in
    or_number (kind_fault nodes pool a.map p a.name)
    (or_number (number_fault nodes pool p a.i (topology_number a.name)) (shape_fault nodes pool p a.i a.name))
    ≡ map_record_fault nodes pool a.map a.i a.name
rest c =
    let a = c.args in
    named_fault a.tables.now.nodes.now a.tables.now.pool.now a.map a.i a.name
    (λ e. named c (zero_other a.name e)) (parent c)

pub returns-then-matches : goal.returns-then-matches
unfolding map_record_fault
returns-then-matches c =
    elim c.match-matches.branch [
      | in-Other w ↦ rw w.in-Other.is refl
      | in_default w ↦ true_false c.if-matches.true w.matches-is
    ]

pub returns-in_err-kind_fault : goal.returns-in_err-kind_fault
returns-in_err-kind_fault c =
    let a = c.args in
    let nodes = a.tables.now.nodes.now in
    let pool = a.tables.now.pool.now in
    let p = c.node_word-p.result in
    let told = err_from_is_err_and c.from_residual.result c.from_residual.ensures.1 in
    rw (told.1, told.2)
    (or_told (or_number (number_fault nodes pool p a.i (topology_number a.name)) (shape_fault nodes pool p a.i a.name))
    c.in_err-kind_fault.ensures (rule_counts c.in_err-kind_fault.field-0.0)
    ∙ rest (goal.at.returns-in_err-kind_fault c).After-node_word-p)

-- the number of the name is the one tested
number-told :
    (c : After-number_fault) {v : ℕ} →
    let a = c.args in
    let number = number_fault a.tables.now.nodes.now a.tables.now.pool.now c.node_word-p.result a.i in
    v ≡ number c.topology_number.result →
    v ≡ number (topology_number a.name)
number-told c e =
    let a = c.args in e ∙ ap (number_fault a.tables.now.nodes.now a.tables.now.pool.now c.node_word-p.result a.i) c.topology_number.ensures

pub returns-in_err-number_fault : goal.returns-in_err-number_fault
returns-in_err-number_fault c =
    let a = c.args in
    let told = err_from_is_err_and c.from_residual-in_err-number_fault.result c.from_residual-in_err-number_fault.ensures.1 in
    let number = number-told (goal.at.returns-in_err-number_fault c).After-number_fault c.in_err-number_fault.ensures in
    rw (told.1, told.2)
    (or_next c.in_ok-kind_fault.ensures refl
    (or_told (shape_fault a.tables.now.nodes.now a.tables.now.pool.now c.node_word-p.result a.i a.name)
    number (rule_counts c.in_err-number_fault.field-0.0))
    ∙ rest (goal.at.returns-in_err-number_fault c).After-node_word-p)

pub returns : goal.returns
returns c =
    or_next c.in_ok-kind_fault.ensures refl
    (or_next (number-told (goal.at.returns c).After-number_fault c.in_ok-number_fault.ensures) refl c.shape_fault.ensures)
    ∙ rest (goal.at.returns c).After-node_word-p
