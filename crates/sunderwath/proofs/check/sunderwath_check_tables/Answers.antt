-- SPDX-License-Identifier: BSD-2-Clause OR GPL-2.0-or-later
-- `sunderwath_check_tables` writes what the library answers: rules 1 to 8 are told of no property. Assumes nothing.
use mathlib.Core.Path.{ap, ◌∙◌}
use native.Mathlib.Omega.{arith}
use Rattle.laws.specs.facts.Told.{Fault}
use Rattle.tables.specs.facts.Board.{board}
use Rattle.wellformed.proofs.RuleLaws.{table_place}
use Rattle.wellformed.proofs.SecondTables.{tables_plain}
use Rattle.sunderwath.proofs.CallLaws.{check_in_word}
use Rattle.sunderwath.proofs.check.sunderwath_check_tables.Goals as goal

pub tell_check-told-requires : goal.tell_check-told-requires
tell_check-told-requires c =
    let a = c.args in
    let b = board a.width a.nodes.now a.props.now a.pool.now in
    check_in_word c.table_fault.result _ c.table_fault.ensures (omega (arith, table_place b))

pub returns-clause-answer : goal.returns-clause-answer
returns-clause-answer c =
    let a = c.args in
    let b = board a.width a.nodes.now a.props.now a.pool.now in
    let same = c.tell_check-told.ensures ∙ c.table_fault.ensures in
    let silent = ap (λ (f : Fault). f.second) same ∙ tables_plain b in
    rw (← same) (rw silent at c.put_refusal.ensures.answer)
