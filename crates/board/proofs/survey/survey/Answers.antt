-- SPDX-License-Identifier: BSD-2-Clause OR GPL-2.0-or-later
-- `survey` stops at the first fault of rules 1 to 26, 36 and 37, and leaves its lists where there is none. Assumes nothing.
use mathlib.Core.Path.{◌≡◌, refl, sym, ap, ◌∙◌}
use Prim.Native.Nat.{ℕ, ◌≤◌}
use native.Mathlib.Omega.{arith}
use lib.ListN.{length}
use Rattle.std.proofs.lemmas.Result.{err_from_is_err_and}
use Rattle.laws.specs.facts.Told.{Fault}
use Rattle.laws.specs.facts.Limits.{max_cpus}
use Rattle.laws.specs.answers.Fault.{told}
use Rattle.laws.proofs.OverLaws.{over_length}
use Rattle.laws.proofs.ToldLaws.{rule_told}
use Rattle.tables.specs.facts.Board.{board_of}
use Rattle.wellformed.specs.answers.Check.{table_fault}
use Rattle.cpus.specs.answers.Check.{root_fault, cpu_count, count_fault, cpu_fault, phandles_fault}
use Rattle.board.proofs.SurveyLaws.{survey_stages, map_stage, gives_up, gives_up_last, clears}
use Rattle.board.proofs.StageLaws.{Tables, Counted, tables_clear, root_told, root_clear, count_told, count_clear, map_told, map_rest}
use Rattle.board.proofs.StageLaws.{regs_told, regs_rest, regs_laid, phandles_told, phandles_rest, tree_told, leaves_counted, leaves_laid, named_laid}
use Rattle.board.proofs.survey.survey.Goals as goal
use Rattle.board.proofs.survey.survey.Goals.{In_ok-table_fault, In_ok-count_fault}

-- behind rules 1 to 8
behind_tables : (c : In_ok-table_fault) → Tables (board_of c.args.width c.args.tables.now)
behind_tables c = tables_clear _ c.in_ok-table_fault.ensures refl

-- behind rule 10
behind_count :
    (c : In_ok-count_fault) →
    Counted (board_of c.args.width c.args.tables.now) c.read_root-root.result.cells c.list_cpus-count.result c.list_cpus-count.new.records
    c.args.arrays.now.cpus
behind_count c =
    let t = tables_clear _ c.in_ok-table_fault.ensures refl in
    count_clear _ t (root_clear _ t c.read_root-root.ensures (rw c.in_ok-root.was refl)) c.args.arrays.now.cpus c.list_cpus-count.ensures.count
    c.list_cpus-count.ensures.records c.in_ok-count_fault.ensures refl

-- the arrays have room for all
long_records : (c : In_ok-count_fault) → max_cpus ≤ length c.list_cpus-count.new.records
long_records c =
    let size : length c.list_cpus-count.new.records ≡ length c.args.arrays.now.cpus = rw over_length at (ap length c.list_cpus-count.ensures.records) in
    omega arith

long_regs : (c : In_ok-count_fault) → max_cpus ≤ length c.args.arrays.now.regs
long_regs c = omega arith

pub returns-in_err-table_fault : goal.returns-in_err-table_fault
returns-in_err-table_fault c =
    let b = board_of c.args.width c.args.tables.now in
    let p = err_from_is_err_and c.from_residual.result c.from_residual.ensures.1 in
    let t = gives_up b p.1 p.2 (table_fault b) _ (survey_stages b) c.in_err-table_fault.ensures in
    record { answer = t.0; lists = t.1 }

pub returns-in_err-root : goal.returns-in_err-root
returns-in_err-root c =
    let b = board_of c.args.width c.args.tables.now in
    let first = behind_tables (goal.at.returns-in_err-root c).In_ok-table_fault in
    let q = c.from_residual-in_err-root in
    let p = err_from_is_err_and q.result q.ensures.1 in
    let t = gives_up b p.1 p.2 (root_fault b) _ first.rest (rw c.in_err-root.was at (root_told b c.read_root-root.ensures)) in
    record { answer = t.0; lists = t.1 }

pub returns-in_err-count_fault : goal.returns-in_err-count_fault
returns-in_err-count_fault c =
    let b = board_of c.args.width c.args.tables.now in
    let first = behind_tables (goal.at.returns-in_err-count_fault c).In_ok-table_fault in
    let root = root_clear b first c.read_root-root.ensures (rw c.in_ok-root.was refl) in
    let number = count_told b first c.list_cpus-count.ensures.count c.in_err-count_fault.ensures in
    let q = c.from_residual-in_err-count_fault in
    let p = err_from_is_err_and q.result q.ensures.1 in
    let t =
    gives_up b p.1 p.2 (told (count_fault (cpu_count b)) 0) _ root.rest
    (sym (rule_told _ 0) ∙ ap (λ (v : ℕ). told v 0) number) in
    record { answer = t.0; lists = t.1 }

pub returns-in_err-read_numbers : goal.returns-in_err-read_numbers
returns-in_err-read_numbers c =
    let b = board_of c.args.width c.args.tables.now in
    let at = (goal.at.returns-in_err-read_numbers c).In_ok-count_fault in
    let k = behind_count at in
    let q = c.from_residual-in_err-read_numbers in
    let p = err_from_is_err_and q.result q.ensures.1 in
    let keys = c.index_properties.ensures.table in
    let same = regs_told b k (long_records at) keys c.args.arrays.now.regs (long_regs at) c.in_err-read_numbers.ensures.fault in
    let t = gives_up b p.1 p.2 (cpu_fault b) _ k.rest same in
    record { answer = t.0; lists = t.1 }

pub returns-in_err-map : goal.returns-in_err-map
returns-in_err-map c =
    let b = board_of c.args.width c.args.tables.now in
    let at = (goal.at.returns-in_err-map c).In_ok-count_fault in
    let k = behind_count at in
    let q = c.from_residual-in_err-map in
    let p = err_from_is_err_and q.result q.ensures.1 in
    let keys = c.index_properties.ensures.table in
    let regs = regs_rest b k (long_records at) keys c.args.arrays.now.regs (long_regs at) c.in_ok-read_numbers.ensures.fault refl in
    let t = gives_up b p.1 p.2 (map_stage b) _ regs (map_told b c.in_err-map.ensures) in
    record { answer = t.0; lists = t.1 }

pub returns-in_err-read_numbers-2 : goal.returns-in_err-read_numbers-2
returns-in_err-read_numbers-2 c =
    let b = board_of c.args.width c.args.tables.now in
    let at = (goal.at.returns-in_err-read_numbers-2 c).In_ok-count_fault in
    let k = behind_count at in
    let q = c.from_residual-in_err-read_numbers-2 in
    let p = err_from_is_err_and q.result q.ensures.1 in
    let keys = c.index_properties.ensures.table in
    let regs = regs_rest b k (long_records at) keys c.args.arrays.now.regs (long_regs at) c.in_ok-read_numbers.ensures.fault refl in
    let map = map_rest b regs c.in_ok-map.ensures refl in
    let same = phandles_told b k (long_records at) keys c.in_err-read_numbers-2.ensures.fault in
    let t = gives_up b p.1 p.2 (phandles_fault b) _ map same in
    record { answer = t.0; lists = t.1 }

pub returns-in_err-leaves : goal.returns-in_err-leaves
returns-in_err-leaves c =
    let b = board_of c.args.width c.args.tables.now in
    let at = (goal.at.returns-in_err-leaves c).In_ok-count_fault in
    let k = behind_count at in
    let q = c.from_residual-in_err-leaves in
    let p = err_from_is_err_and q.result q.ensures.1 in
    let keys = c.index_properties.ensures.table in
    let regs = regs_rest b k (long_records at) keys c.args.arrays.now.regs (long_regs at) c.in_ok-read_numbers.ensures.fault refl in
    let map = map_rest b regs c.in_ok-map.ensures refl in
    let read = c.in_ok-read_numbers-2.ensures in
    let rest = phandles_rest b k (long_records at) keys read.fault map refl in
    let same =
    tree_told b k (long_records at) keys read.fault refl c.read_numbers-2.new.values read.values c.in_ok-map.ensures refl
    c.in_err-leaves.ensures.answer in
    let t = gives_up_last b p.1 p.2 _ rest same in
    record { answer = t.0; lists = t.1 }

pub returns : goal.returns
returns c =
    let b = board_of c.args.width c.args.tables.now in
    let at = (goal.at.returns c).In_ok-count_fault in
    let k = behind_count at in
    let long = long_records at in
    let keys = c.index_properties.ensures.table in
    let told = c.in_ok-read_numbers.ensures in
    let regs = regs_rest b k long keys c.args.arrays.now.regs (long_regs at) told.fault refl in
    let map = map_rest b regs c.in_ok-map.ensures refl in
    let read = c.in_ok-read_numbers-2.ensures in
    let phandles = c.read_numbers-2.new.values in
    let rest = phandles_rest b k long keys read.fault map refl in
    let scan = c.in_ok-leaves.ensures in
    let same = tree_told b k long keys read.fault refl phandles read.values c.in_ok-map.ensures refl scan.answer in
    let t =
    clears b (same ∙ sym rest) (ap (λ (f : Fault). f.number) (rest ∙ sym same)) k.counted
    (leaves_counted b k long keys read.fault refl phandles read.values c.in_ok-map.ensures refl scan.answer refl)
    (record {
      cpus_laid = k.laid;
      regs_laid = regs_laid b k long keys c.args.arrays.now.regs (long_regs at) told.fault refl told.values;
      leaves_laid =
          leaves_laid b k long keys read.fault refl phandles read.values c.in_ok-map.ensures refl scan.answer refl c.args.arrays.now.leaves scan.leaves;
      named_laid =
          named_laid b k long keys read.fault refl phandles read.values c.in_ok-map.ensures refl scan.answer refl c.args.arrays.now.named scan.named;
    }) in
    record { answer = t.0; lists = t.1 }
