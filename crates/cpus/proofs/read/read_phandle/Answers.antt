-- SPDX-License-Identifier: BSD-2-Clause OR GPL-2.0-or-later
-- `read_phandle` meets its contract: the phandle, or rule 17. Assumes nothing.
use mathlib.Core.Path.{sym, ap, ◌∙◌}
use Rattle.std.proofs.lemmas.Result.{err_from_is_err_and}
use Rattle.laws.specs.facts.Told.{Fault}
use Rattle.cpus.specs.answers.Numbers.{cpu_reading, reading_from}
use Rattle.cpus.proofs.OptionLaws.{ok_or_err, ok_or_ok}
use Rattle.cpus.proofs.read.read_phandle.Goals as goal

pub returns-in_err-value-clause-reading : goal.returns-in_err-value-clause-reading
unfolding reading_from
returns-in_err-value-clause-reading c =
    let p = err_from_is_err_and c.from_residual.result c.from_residual.ensures.1 in
    let q = ok_or_err c.phandle_in-phandle.result c.refusal_of.result c.in_err-value.field-0.0 c.in_err-value.ensures.value in
    rw (p.1, p.2, q.1)
    (ap (λ (f : Fault). cpu_reading f.number f.second 0) c.refusal_of.ensures
    ∙ rw (← c.find_indexed-found.ensures.answer, ← c.cell_in.ensures, sym c.phandle_in-phandle.ensures ∙ q.0))

pub returns-clause-reading : goal.returns-clause-reading
unfolding reading_from
returns-clause-reading c =
    let there = ok_or_ok c.phandle_in-phandle.result c.refusal_of.result c.in_ok-value.value c.in_ok-value.ensures.value in
    rw (← c.find_indexed-found.ensures.answer, ← c.cell_in.ensures, sym c.phandle_in-phandle.ensures ∙ there)
    (rw c.record_of.ensures.record)
