-- SPDX-License-Identifier: BSD-2-Clause OR GPL-2.0-or-later
-- `read_numbers` meets its contract: the pass holds before each record. Assumes nothing.
use Rattle.cpus.specs.answers.Numbers.{reading_at, repeat_rule}
use Rattle.cpus.proofs.NumberPassLaws.{Pass}
use Rattle.cpus.proofs.numbers.read_numbers.Given as goal

abbrev pub invariant-loop-k : goal.invariant-loop-k
invariant-loop-k l =
    Pass (reading_at l.wanted l.tables.props.now l.tables.pool.now l.index) (repeat_rule l.wanted) l.records l.initial.values l.k l.values
