-- SPDX-License-Identifier: BSD-2-Clause OR GPL-2.0-or-later
-- `table_fault` tells the first of rules 1 to 8 that is broken. Assumes nothing.
use mathlib.Core.Path.{refl}
use Rattle.std.proofs.lemmas.Result.{err_from_is_err_and}
use Rattle.laws.proofs.ToldLaws.{rule_counts}
use Rattle.wellformed.proofs.CodeStages.{shape_told, nodes_told, properties_told}
use Rattle.wellformed.proofs.check.table_fault.Goals as goal

pub returns-in_err-size_fault : goal.returns-in_err-size_fault
returns-in_err-size_fault c =
    let p = err_from_is_err_and c.from_residual.result c.from_residual.ensures.1 in
    rw (p.1, p.2) (shape_told _ c.in_err-size_fault.ensures (rule_counts _))

pub returns-in_err-first_node_fault : goal.returns-in_err-first_node_fault
returns-in_err-first_node_fault c =
    let r = c.from_residual-in_err-first_node_fault in
    let p = err_from_is_err_and r.result r.ensures.1 in
    rw (p.1, p.2) (nodes_told _ c.in_ok-size_fault.ensures refl c.in_err-first_node_fault.ensures (rule_counts _))

pub returns : goal.returns
returns c = properties_told _ c.in_ok-size_fault.ensures refl c.in_ok-first_node_fault.ensures refl c.first_property_fault.ensures
