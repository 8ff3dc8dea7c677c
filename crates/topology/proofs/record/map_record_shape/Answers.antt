-- SPDX-License-Identifier: BSD-2-Clause OR GPL-2.0-or-later
-- `map_record_shape` meets its contract: a fault of 19 to 23, or whether the record is a leaf. Assumes nothing.
use mathlib.Core.Path.{refl}
use Rattle.std.proofs.lemmas.Result.{err_from_is_err_and}
use Rattle.laws.proofs.ToldLaws.{rule_counts}
use Rattle.topology.proofs.CodeLaws.{fault_told, leaf_told}
use Rattle.topology.proofs.record.map_record_shape.Goals as goal

pub returns-in_err-map_record_fault : goal.returns-in_err-map_record_fault
returns-in_err-map_record_fault c =
    let p = err_from_is_err_and c.from_residual.result c.from_residual.ensures.1 in
    rw (p.1, p.2) (fault_told _ _ _ _ c.requires.2 c.in_err-map_record_fault.ensures (rule_counts c.in_err-map_record_fault.field-0.0))

pub returns : goal.returns
returns c = leaf_told _ _ _ _ c.requires.2 c.in_ok-map_record_fault.ensures refl c.is_leaf_name.ensures
