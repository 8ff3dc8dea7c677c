-- SPDX-License-Identifier: BSD-2-Clause OR GPL-2.0-or-later
-- The first of rules 1 to 26, 36 and 37 that is broken.
use Rattle.laws.specs.facts.Told.{Fault}
use Rattle.laws.specs.answers.Fault.{or_else}
use Rattle.tables.specs.facts.Board.{Board}
use Rattle.wellformed.specs.answers.Check.{table_fault}
use Rattle.cpus.specs.answers.Check.{cpu_list, cpus_fault, phandles_fault}
use Rattle.cpumap.specs.answers.Find.{map_fault}
use Rattle.leaves.specs.answers.Scan.{leaves_fault, tree_of}

-- the first of them that is broken
unfoldable pub survey_fault : Board → Fault
survey_fault b =
    or_else (table_fault b)
    (or_else (cpus_fault b)
    (or_else (map_fault b.nodes b.pool)
    (or_else (phandles_fault b) (leaves_fault (tree_of b) (cpu_list b)))))
