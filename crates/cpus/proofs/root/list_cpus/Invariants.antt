-- SPDX-License-Identifier: BSD-2-Clause OR GPL-2.0-or-later
-- `list_cpus` meets its contract: so many of the records passed are cpu records, and they are listed. Assumes nothing.
use mathlib.Core.Path.{◌≡◌}
use Rattle.laws.specs.answers.Listed.{laid_over}
use Rattle.laws.specs.answers.Search.{count_below, list_below}
use Rattle.cpus.specs.answers.Check.{is_cpu}
use Rattle.cpus.proofs.root.list_cpus.Given as goal

abbrev pub invariant-loop-i : goal.invariant-loop-i
invariant-loop-i l = record {
  count : l.count ≡ count_below (is_cpu l.tables.nodes.now l.tables.pool.now) l.i;
  listed : l.records ≡ laid_over (list_below (is_cpu l.tables.nodes.now l.tables.pool.now) l.i) l.initial.records;
}
