-- SPDX-License-Identifier: BSD-2-Clause OR GPL-2.0-or-later
-- `read_tree` meets its contract: the pass over the records, the pass over the cpu records. Assumes nothing.
use mathlib.Core.Path.{refl}
use Rattle.std.proofs.lemmas.Result.{err_from_is_err_and}
use Rattle.laws.proofs.ToldLaws.{rule_counts}
use Rattle.leaves.proofs.ScanLaws.{cut_pass, first_told, last_is, last_told, last_clear}
use Rattle.leaves.proofs.scan.read_tree.Goals as goal

pub returns-in_err-count : goal.returns-in_err-count
returns-in_err-count c =
    let told = c.in_err-count.ensures in
    let pass = cut_pass _ _ _ _ _ _ c.min-words.ensures c.min-known.ensures (told.answer, told.arrays) in
    let p = err_from_is_err_and c.from_residual.result c.from_residual.ensures.1 in
    record {
      answer = rw (p.1, p.2) (first_told _ _ pass.0 (rule_counts _));
      leaves = pass.1.leaves_left;
      named = pass.1.named_left;
    }

pub returns-in_err-first_unmapped : goal.returns-in_err-first_unmapped
returns-in_err-first_unmapped c =
    let records = c.args.cpu_records.now in
    let scan = c.in_ok-count.ensures in
    let pass = cut_pass _ _ _ _ _ _ c.min-words.ensures c.min-known.ensures (scan.answer, scan.arrays) in
    let is = last_is _ records pass.0 refl pass.1.marks_left c.in_err-first_unmapped.ensures in
    let result = c.from_residual-in_err-first_unmapped in
    let p = err_from_is_err_and result.result result.ensures.1 in
    record {
      answer = rw (p.1, p.2) (last_told _ records pass.0 refl is (rule_counts _));
      leaves = pass.1.leaves_left;
      named = pass.1.named_left;
    }

pub returns : goal.returns
returns c =
    let records = c.args.cpu_records.now in
    let scan = c.in_ok-count.ensures in
    let pass = cut_pass _ _ _ _ _ _ c.min-words.ensures c.min-known.ensures (scan.answer, scan.arrays) in
    let is = last_is _ records pass.0 refl pass.1.marks_left c.in_ok-first_unmapped.ensures in
    record { answer = last_clear _ records pass.0 refl is refl; leaves = pass.1.leaves_left; named = pass.1.named_left }
