-- SPDX-License-Identifier: BSD-2-Clause OR GPL-2.0-or-later
-- The faults of a board, layer by layer. Assumes nothing.
use mathlib.Core.Path.{◌≡◌, sym, ◌∙◌}
use Prim.Native.Nat.{ℕ, ◌≤◌}
use Rattle.laws.specs.answers.Fault.{told, or_else}
use Rattle.laws.proofs.OrElseLaws.{told_number, or_clear, or_assoc}
use Rattle.tables.specs.facts.Board.{Board}
use Rattle.wellformed.specs.answers.Check.{table_fault}
use Rattle.cpus.specs.answers.Check.{cpu_count, cpu_list, count_fault, root_fault, cpus_fault, phandles_fault}
use Rattle.cpus.proofs.CpuMeans.{count_fits}
use Rattle.cpumap.specs.answers.Find.{map_fault}
use Rattle.leaves.specs.answers.Scan.{leaves_fault, tree_of}
use Rattle.demands.specs.answers.Survey.{survey_fault}
use Rattle.demands.specs.answers.Answer.{board_fault, room_fault}

-- the faults of a board, layer by layer
pub board_stages :
    (b : Board) (room : ℕ) →
    board_fault b room
    ≡ or_else (table_fault b)
    (or_else (cpus_fault b)
    (or_else (map_fault b.nodes b.pool)
    (or_else (phandles_fault b) (or_else (leaves_fault (tree_of b) (cpu_list b)) (told (room_fault room (cpu_count b)) 0)))))
unfolding board_fault survey_fault
board_stages b room = simp or_assoc

-- at most 256 cpu records, once nothing is told of the cpu nodes
pub few_cpus : (b : Board) → (cpus_fault b).number ≡ 0 → cpu_count b ≤ 256
unfolding cpus_fault
few_cpus b z =
    let later = (or_clear (root_fault b) _ z).1 in
    count_fits (cpu_count b) (sym (told_number (count_fault (cpu_count b)) 0) ∙ (or_clear (told (count_fault (cpu_count b)) 0) _ later).0)
