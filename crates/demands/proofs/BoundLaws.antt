-- SPDX-License-Identifier: BSD-2-Clause OR GPL-2.0-or-later
-- No answer's place is above 4,096, no second place is more than a word, and no count above 256. Assumes nothing.
use mathlib.Core.Path.{◌≡◌, refl}
use mathlib.Core.Bool.{Bool, true, false}
use Prim.Native.Nat.{ℕ, ◌≤◌}
use native.Mathlib.Nat.{le_trans}
use native.Mathlib.Omega.{arith}
use lib.Dec.{eqb}
use borrow.Author.Tests.{eqb-true}
use Rattle.laws.specs.facts.Told.{Fault}
use Rattle.laws.specs.answers.Fault.{told, or_else, first_fault}
use Rattle.laws.proofs.FaultLaws.{place_le}
use Rattle.laws.proofs.OrElseLaws.{or_clear}
use Rattle.laws.proofs.RuleStageLaws.{told_place, else_place}
use Rattle.slot_table.specs.answers.Table.{entries_fault}
use Rattle.affinity.specs.declared.Hash.{Hash}
use Rattle.tables.specs.facts.Board.{Board, node_count}
use Rattle.laws.specs.facts.Limits.{max_properties, no_property}
use Rattle.wellformed.specs.answers.Check.{table_fault}
use Rattle.wellformed.proofs.RuleLaws.{table_place, table_sound}
use Rattle.wellformed.proofs.WellFormedLaws.{wf_nodes}
use Rattle.cpus.specs.answers.Check.{cpu_count, cpu_list, cpus_fault, phandles_fault}
use Rattle.cpus.proofs.CpuTells.{cpus_place, phandles_place}
use Rattle.cpumap.specs.answers.Find.{map_of, map_fault, no_map_fault, second_map_fault}
use Rattle.leaves.specs.answers.Scan.{leaves_fault, tree_of}
use Rattle.leaves.proofs.TreeTells.{leaves_place}
use Rattle.rows.specs.answers.Slots.{board_hash}
use Rattle.demands.specs.facts.Words.{Words}
use Rattle.demands.specs.answers.Survey.{survey_fault}
use Rattle.demands.specs.facts.Told.{BoardAnswer}
use Rattle.demands.specs.answers.Answer.{board_fault, room_fault, answer_by, answer_of}
use Rattle.demands.proofs.LayerLaws.{board_stages, few_cpus}
use Rattle.demands.specs.answers.Slots.{slots_fault, slots_answer}
use Rattle.demands.proofs.SecondBoard.{second_word}
use Rattle.demands.proofs.SecondSlots.{slots_word}

-- an answer by what is told
module _ (f : Fault) (count : ℕ) (hash : Hash) where
  abbrev answer : BoardAnswer
  answer = answer_by f count hash

  by_place : f.place ≤ max_properties → answer.place ≤ max_properties
  by_place le = go (eqb f.number 0) refl
    where
      go : (t : Bool) → eqb f.number 0 ≡ t → answer.place ≤ max_properties
      go true e = rw e (omega arith)
      go false e = rw e le

  by_second : f.second ≤ no_property → answer.second ≤ no_property
  by_second le = go (eqb f.number 0) refl
    where
      go : (t : Bool) → eqb f.number 0 ≡ t → answer.second ≤ no_property
      go true e = rw e (omega arith)
      go false e = rw e le

  by_count : (f.number ≡ 0 → count ≤ 256) → answer.count ≤ 256
  by_count le = go (eqb f.number 0) refl
    where
      go : (t : Bool) → eqb f.number 0 ≡ t → answer.count ≤ 256
      go true e = rw e (le (eqb-true f.number 0 e))
      go false e = rw e (omega arith)

module _ (b : Board) (room : ℕ) where
  abbrev count : ℕ
  count = node_count b.nodes

  map_place : (map_fault b.nodes b.pool).place ≤ count
  unfolding map_fault
  map_place =
      else_place (told (no_map_fault b.nodes b.pool) 0) (first_fault (second_map_fault b.nodes b.pool) count)
      (le_trans (told_place (no_map_fault b.nodes b.pool) 0) (omega arith)) λ _.
      place_le (second_map_fault b.nodes b.pool) count

  later_place :
      (or_else (cpus_fault b)
      (or_else (map_fault b.nodes b.pool)
      (or_else (phandles_fault b) (or_else (leaves_fault (tree_of b) (cpu_list b)) (told (room_fault room (cpu_count b)) 0))))).place
      ≤ count
  later_place =
      else_place (cpus_fault b) _ (cpus_place b) λ _.
      else_place (map_fault b.nodes b.pool) _ map_place λ _.
      else_place (phandles_fault b) _ (phandles_place b) λ _.
      else_place (leaves_fault (tree_of b) (cpu_list b)) (told (room_fault room (cpu_count b)) 0) (leaves_place b (map_of b.nodes b.pool)) λ _.
      le_trans (told_place (room_fault room (cpu_count b)) 0) (omega arith)

  fault_place : (board_fault b room).place ≤ max_properties
  fault_place =
      rw (board_stages b room)
      (else_place (table_fault b) _ (table_place b) λ z. le_trans later_place (omega (arith, (wf_nodes (table_sound b z)).1)))

  pub answer_place : (answer_of b room).place ≤ max_properties
  unfolding answer_of
  answer_place = by_place (board_fault b room) (cpu_count b) (board_hash b) fault_place

  pub answer_second : (answer_of b room).second ≤ no_property
  unfolding answer_of
  answer_second = by_second (board_fault b room) (cpu_count b) (board_hash b) (second_word b room)

  -- nothing is told, so nothing is told of the cpu nodes
  cpus_few : (board_fault b room).number ≡ 0 → cpu_count b ≤ 256
  unfolding board_fault survey_fault
  cpus_few z =
      let survey = (or_clear (survey_fault b) _ z).0 in
      few_cpus b (or_clear (cpus_fault b) _ (or_clear (table_fault b) _ survey).1).0

  pub answer_count : (answer_of b room).count ≤ 256
  unfolding answer_of
  answer_count = by_count (board_fault b room) (cpu_count b) (board_hash b) cpus_few

-- .. and with a table of slots
module _ (b : Board) (room entries : ℕ) where
  slots_fault_place : (slots_fault b room entries).place ≤ max_properties
  unfolding slots_fault
  slots_fault_place =
      else_place (board_fault b room) _ (fault_place b room) λ _.
      le_trans (told_place (entries_fault (board_hash b).bits entries) 0) (omega arith)

  pub slots_place : (slots_answer b room entries).place ≤ max_properties
  unfolding slots_answer
  slots_place = by_place (slots_fault b room entries) (cpu_count b) (board_hash b) slots_fault_place

  pub slots_second_word : (slots_answer b room entries).second ≤ no_property
  unfolding slots_answer
  slots_second_word = by_second (slots_fault b room entries) (cpu_count b) (board_hash b) (slots_word b room entries)

  pub slots_count : (slots_answer b room entries).count ≤ 256
  unfolding slots_answer slots_fault
  slots_count = by_count (slots_fault b room entries) (cpu_count b) (board_hash b) (λ z. cpus_few b room (or_clear (board_fault b room) _ z).0)

-- so the numbers of both reading calls are words
pub board_words : (b : Board) (room : ℕ) → Words (answer_of b room)
board_words b room =
    record {
      place = omega (arith, answer_place b room);
      second = omega (arith, answer_second b room);
      count = omega (arith, answer_count b room);
    }

pub slots_words : (b : Board) (room entries : ℕ) → Words (slots_answer b room entries)
slots_words b room entries =
    record {
      place = omega (arith, slots_place b room entries);
      second = omega (arith, slots_second_word b room entries);
      count = omega (arith, slots_count b room entries);
    }
