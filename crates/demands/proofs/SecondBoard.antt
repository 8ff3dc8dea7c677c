-- SPDX-License-Identifier: BSD-2-Clause OR GPL-2.0-or-later
-- The second place of what is told of a board: it is that of its number and place, no other is, and it is a word. Assumes nothing.
use mathlib.Core.Path.{◌≡◌, refl, sym, ◌∙◌}
use mathlib.Core.Logic.{◌↔◌}
use mathlib.Core.Bool.{Bool, true, false, cond}
use Prim.Native.Nat.{ℕ, ◌*◌, ◌≤◌}
use native.Mathlib.Omega.{arith}
use lib.Dec.{eqb, ltb}
use borrow.Author.Tests.{eqb-true, eqb-false}
use Rattle.laws.specs.facts.First.{has}
use Rattle.laws.specs.facts.Limits.{no_property}
use Rattle.laws.specs.facts.Told.{Fault}
use Rattle.laws.specs.answers.Fault.{told, or_else}
use Rattle.laws.proofs.FaultLaws.{or_first, or_second}
use Rattle.layout.specs.facts.Row.{row_size}
use Rattle.tables.specs.facts.Board.{Board}
use Rattle.tables.specs.facts.Second.{Second}
use Rattle.tables.proofs.SecondLaws.{spoken, HasSecond, told_second, else_second, second_silent, second_bound}
use Rattle.wellformed.specs.facts.Rules.{WellFormed}
use Rattle.wellformed.specs.answers.Check.{table_fault}
use Rattle.wellformed.proofs.RuleLaws.{table_sound}
use Rattle.wellformed.proofs.WellFormedLaws.{wf_props}
use Rattle.wellformed.proofs.SecondTables.{one_second, tables_silent, tables_second}
use Rattle.cpus.specs.answers.Check.{cpu_count, cpu_list, cpus_fault, phandles_fault}
use Rattle.cpus.proofs.SecondMeans.{cpus_second, phandles_second}
use Rattle.cpumap.specs.answers.Find.{map_of, map_fault}
use Rattle.cpumap.proofs.SecondMap.{map_second}
use Rattle.leaves.specs.answers.Scan.{leaves_fault, tree_of}
use Rattle.leaves.proofs.SecondMeans.{leaves_second}
use Rattle.demands.specs.answers.Answer.{board_fault, room_fault}
use Rattle.demands.proofs.LayerLaws.{board_stages}

module _ (b : Board) (room : ℕ) where
  -- what is told after rules 1 to 8
  abbrev later : Fault
  later =
      or_else (cpus_fault b)
      (or_else (map_fault b.nodes b.pool)
      (or_else (phandles_fault b) (or_else (leaves_fault (tree_of b) (cpu_list b)) (told (room_fault room (cpu_count b)) 0))))

  later_second : HasSecond b later
  later_second =
      else_second b (cpus_fault b) _ (cpus_second b)
      (else_second b (map_fault b.nodes b.pool) _ (map_second b)
      (else_second b (phandles_fault b) _ (phandles_second b)
      (else_second b (leaves_fault (tree_of b) (cpu_list b)) (told (room_fault room (cpu_count b)) 0)
      (leaves_second b (map_of b.nodes b.pool) (cpu_list b))
      (told_second b (room_fault room (cpu_count b)) 0 (go (ltb room (row_size * cpu_count b)))))))
    where
      go : (t : Bool) → has spoken (cond t 27 0) ≡ false
      go true = refl
      go false = refl

  board_second : HasSecond b (board_fault b room)
  board_second = rw (board_stages b room) (else_second b (table_fault b) later (tables_second b) later_second)

  -- a board whose tables break a rule is told of no property; others have one record of a name at most, and few
  both : (P : Fault → Type 0) → (((table_fault b).number ≡ 0 → ⊥) → P (table_fault b)) → (WellFormed b → P later) → P (board_fault b room)
  both P early late = go (eqb (table_fault b).number 0) refl
    where
      go : (t : Bool) → eqb (table_fault b).number 0 ≡ t → P (board_fault b room)
      go true e =
          let z = eqb-true (table_fault b).number 0 e in
          rw (board_stages b room ∙ or_second (table_fault b) later z) (late (table_sound b z))
      go false e =
          let ne = eqb-false (table_fault b).number 0 e in
          rw (board_stages b room ∙ or_first (table_fault b) later ne) (early ne)

  second_only : (s : ℕ) → let f = board_fault b room in Second b f.number f.place s → s ≡ f.second
  second_only s =
      both (λ f. Second b f.number f.place s → s ≡ f.second)
      (λ _ h. second_silent (tables_silent b) h ∙ sym (second_silent (tables_silent b) (tables_second b)))
      (λ well h. one_second (well 8) h later_second)

  pub second_is : (s : ℕ) → let f = board_fault b room in Second b f.number f.place s ↔ (s ≡ f.second)
  second_is s = (second_only s, λ e. rw e board_second)

  pub second_word : (board_fault b room).second ≤ no_property
  second_word =
      both (λ f. f.second ≤ no_property)
      (λ _. omega (arith, second_silent (tables_silent b) (tables_second b)))
      (λ well. second_bound (omega (arith, (wf_props well).0)) later_second)
