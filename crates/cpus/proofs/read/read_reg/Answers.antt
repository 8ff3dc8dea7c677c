-- SPDX-License-Identifier: BSD-2-Clause OR GPL-2.0-or-later
-- `read_reg` meets its contract: the number, or rule 11 or 12. Assumes nothing.
use mathlib.Core.Path.{sym, ap, ◌∙◌}
use Rattle.std.proofs.lemmas.Result.{err_from_is_err_and}
use Rattle.laws.specs.facts.Told.{Fault}
use Rattle.cpus.specs.answers.Cell.{cpu_cell}
use Rattle.cpus.specs.answers.Numbers.{cpu_reading, reading_from}
use Rattle.cpus.proofs.OptionLaws.{ok_or_err, ok_or_ok, number_not, number_is}
use Rattle.cpus.proofs.read.read_reg.Goals as goal

pub returns-then-ne-clause-reading : goal.returns-then-ne-clause-reading
unfolding reading_from
returns-then-ne-clause-reading c =
    let other = number_not c.cell_in.result cpu_cell c.ne.ensures c.if-ne.true in
    ap (λ (f : Fault). cpu_reading f.number f.second 0) c.refusal_of.ensures
    ∙ rw (← c.find_indexed-kind.ensures.answer, ← c.cell_in.ensures, other)

pub returns-in_err-value-clause-reading : goal.returns-in_err-value-clause-reading
unfolding reading_from
returns-in_err-value-clause-reading c =
    let p = err_from_is_err_and c.from_residual.result c.from_residual.ensures.1 in
    let q = ok_or_err c.reg_in-number.result c.refusal_of-2.result c.in_err-value.field-0.0 c.in_err-value.ensures.value in
    let cpu = number_is c.cell_in.result cpu_cell c.ne.ensures c.if-ne.false in
    rw (p.1, p.2, q.1)
    (ap (λ (f : Fault). cpu_reading f.number f.second 0) c.refusal_of-2.ensures
    ∙ rw (
      ← c.find_indexed-kind.ensures.answer,
      ← c.cell_in.ensures,
      cpu,
      ← c.find_indexed-reg.ensures.answer,
      ← c.value_in.ensures,
      sym c.reg_in-number.ensures ∙ q.0,
    ))

pub returns-clause-reading : goal.returns-clause-reading
unfolding reading_from
returns-clause-reading c =
    let there = ok_or_ok c.reg_in-number.result c.refusal_of-2.result c.in_ok-value.value c.in_ok-value.ensures.value in
    let cpu = number_is c.cell_in.result cpu_cell c.ne.ensures c.if-ne.false in
    rw (
      ← c.find_indexed-kind.ensures.answer,
      ← c.cell_in.ensures,
      cpu,
      ← c.find_indexed-reg.ensures.answer,
      ← c.value_in.ensures,
      sym c.reg_in-number.ensures ∙ there,
    )
