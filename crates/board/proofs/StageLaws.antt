-- SPDX-License-Identifier: BSD-2-Clause OR GPL-2.0-or-later
-- What is known behind each stage of a survey that told nothing, by what the stage's call gave. Assumes nothing.
use mathlib.Core.Path.{◌≡◌, refl, sym, ap, ap₂, ◌∙◌}
use mathlib.Core.List.{List}
use Prim.Native.Nat.{ℕ, ◌≤◌, min}
use native.Mathlib.Omega.{arith}
use lib.ListN.{length, take, replicate, length-map, length-replicate}
use lib.Seq.{take_all}
use borrow.Author.Tests.{eq-eqb}
use Rattle.laws.specs.facts.Told.{Fault}
use Rattle.laws.specs.answers.Fault.{told}
use Rattle.laws.specs.answers.Listed.{laid_over}
use Rattle.laws.specs.answers.Search.{count_below, list_below}
use Rattle.laws.specs.facts.Limits.{max_cpus, max_nodes}
use Rattle.laws.proofs.FaultLaws.{or_second}
use Rattle.laws.proofs.FrontLaws.{front_fits, front_size, front_is}
use Rattle.laws.proofs.OrElseLaws.{told_number}
use Rattle.laws.proofs.OverLaws.{over_length}
use Rattle.tables.specs.facts.Board.{Board, node_count}
use Rattle.wellformed.specs.facts.Rules.{WellFormed}
use Rattle.wellformed.specs.answers.Check.{table_fault}
use Rattle.wellformed.proofs.RuleLaws.{table_sound}
use Rattle.cpus.specs.declared.Cells.{Cells}
use Rattle.cpus.specs.facts.Told.{RootReading}
use Rattle.cpus.specs.declared.CpuNumbers.TheVariants.{Regs, Phandles}
use Rattle.cpus.specs.answers.Check.{is_cpu, root_reading, root_fault, reg_cells, cpu_count, cpu_list, count_fault, cpu_fault, phandles_fault, phandle_list}
use Rattle.cpus.specs.answers.Check.{reg_list}
use Rattle.cpus.specs.answers.Numbers.{reading_at, first_record, numbers_over}
use Rattle.cpus.proofs.CpuMeans.{cpu_count_lem, count_fits}
use Rattle.cpumap.specs.facts.Told.{MapScan}
use Rattle.cpumap.specs.answers.Find.{map_scan}
use Rattle.leaves.specs.facts.Told.{TreeScan}
use Rattle.leaves.specs.answers.Scan.{Tree, lent_tree, leaves_fault, tree_scan, leaves_over, named_over, tree_of, leaves_of, named_of}
use Rattle.leaves.proofs.ScanLaws.{leaves_listed, named_listed}
use Rattle.demands.specs.answers.Survey.{survey_fault}
use Rattle.board.proofs.ReadLaws.{map_root}
use Rattle.board.proofs.SurveyLaws.{counted_all, listed_all, map_stage, from_phandles, from_map, from_cpus, from_count, from_root}
use Rattle.board.proofs.SurveyLaws.{survey_stages, numbers_stage, numbers_found, tree_is, board_keys}

module _ (b : Board) where
  -- behind rules 1 to 8
  pub record Tables : Type 0 where
    pub well : WellFormed b
    pub rest : survey_fault b ≡ from_root b

  pub tables_clear : {f : Fault} → f ≡ table_fault b → f.number ≡ 0 → Tables
  tables_clear e z =
      let clear = ap (λ (g : Fault). g.number) (sym e) ∙ z in
      record { well = table_sound b clear; rest = survey_stages b ∙ or_second (table_fault b) _ clear }

  -- behind rules 9, 36 and 37
  pub record Root (cells : Cells) : Type 0 where
    pub well : WellFormed b
    pub cells_are : Regs cells b.width ≡ Regs (reg_cells b) b.width
    pub rest : survey_fault b ≡ from_count b

  pub root_told : {r : RootReading} → r ≡ root_reading b → r.fault ≡ root_fault b
  root_told e = ap (λ (r : RootReading). r.fault) e

  pub root_clear : Tables → {r : RootReading} → r ≡ root_reading b → r.fault.number ≡ 0 → Root r.cells
  root_clear t e z =
      let clear = ap (λ (g : Fault). g.number) (sym (root_told e)) ∙ z in
      record {
        well = t.well;
        cells_are = ap (λ (r : RootReading). Regs r.cells b.width) e;
        rest = t.rest ∙ or_second (root_fault b) _ clear;
      }

  -- rules 15 and 16
  pub map_told : {m : MapScan} → m ≡ map_scan b.nodes b.pool → m.fault ≡ map_stage b
  unfolding map_scan
  map_told e = ap (λ (m : MapScan). m.fault) e

  pub map_clear : {m : MapScan} → m ≡ map_scan b.nodes b.pool → m.fault.number ≡ 0 → (map_stage b).number ≡ 0
  map_clear e z = ap (λ (g : Fault). g.number) (sym (map_told e)) ∙ z

  pub map_rest : survey_fault b ≡ from_map b → {m : MapScan} → m ≡ map_scan b.nodes b.pool → m.fault.number ≡ 0 → survey_fault b ≡ from_phandles b
  map_rest rest e z = rest ∙ or_second (map_stage b) _ (map_clear e z)

  -- behind rule 10: the cpu records counted and listed
  pub record Counted (cells : Cells) (count : ℕ) (array before : List ℕ) : Type 0 where
    pub well : WellFormed b
    pub cells_are : Regs cells b.width ≡ Regs (reg_cells b) b.width
    pub counted : count ≡ cpu_count b
    pub laid : array ≡ laid_over (cpu_list b) before
    pub few : length (cpu_list b) ≤ max_cpus
    pub rest : survey_fault b ≡ from_cpus b

  -- what `list_cpus` counts and lists
  abbrev pub counted_here : ℕ
  counted_here = count_below (is_cpu b.nodes b.pool) (min (node_count b.nodes) max_nodes)

  abbrev pub listed_here : List ℕ
  listed_here = list_below (is_cpu b.nodes b.pool) (min (node_count b.nodes) max_nodes)

  pub count_told : Tables → {count number : ℕ} → count ≡ counted_here → number ≡ count_fault count → number ≡ count_fault (cpu_count b)
  count_told t e f = f ∙ ap count_fault (e ∙ counted_all b t.well)

  pub count_clear :
      Tables →
      {cells : Cells} →
      Root cells →
      {count number : ℕ} {array : List ℕ} (before : List ℕ) →
      count ≡ counted_here →
      array ≡ laid_over listed_here before →
      number ≡ count_fault count →
      number ≡ 0 →
      Counted cells count array before
  count_clear t r before e laid f z =
      let clear = sym (count_told t e f) ∙ z in
      record {
        well = t.well;
        cells_are = r.cells_are;
        counted = e ∙ counted_all b t.well;
        laid = laid ∙ listed_all b t.well before;
        few = omega (arith, count_fits (cpu_count b) clear, cpu_count_lem b);
        rest = r.rest ∙ or_second (told (count_fault (cpu_count b)) 0) _ (told_number _ 0 ∙ clear);
      }

  module _ {cells : Cells} {count : ℕ} {array before : List ℕ} (k : Counted cells count array before) where
    pub count_is : count ≡ length (cpu_list b)
    count_is = k.counted ∙ cpu_count_lem b

    -- the lent array has room for all
    module _ (room : max_cpus ≤ length array) where
      fits : length (cpu_list b) ≤ length before
      fits = omega (arith, k.few, room, rw over_length at (ap length k.laid))

      pub listed_size : count ≡ length (take count array)
      listed_size = front_size _ _ k.laid count_is fits

      pub listed_is : take count array ≡ cpu_list b
      listed_is = front_is _ _ k.laid count_is fits

      -- none is cut off where there is room for 256
      pub all_listed : (n : ℕ) → max_cpus ≤ n → take n (take count array) ≡ cpu_list b
      all_listed n le = take_all n (take count array) (omega (arith, listed_size, count_is, k.few)) ∙ listed_is

    -- what the calls behind it read: the index of the board's properties, and the records in the lent array
    module _ (room : max_cpus ≤ length array) {index : List ℕ} (keys_are : index ≡ board_keys b) where
      -- rules 11 to 13
      module _
          (regs₀ : List ℕ) (regs_room : max_cpus ≤ length regs₀) {f : Fault}
          (told_is : f ≡ first_record (reading_at (Regs cells b.width) b.props b.pool index) 13 (take (length regs₀) (take count array))) where
        pub regs_told : f ≡ cpu_fault b
        regs_told = told_is ∙ numbers_stage b k.well keys_are (all_listed room (length regs₀) regs_room) k.cells_are 13

        pub regs_rest : f.number ≡ 0 → survey_fault b ≡ from_map b
        regs_rest z = k.rest ∙ or_second (cpu_fault b) _ (ap (λ (g : Fault). g.number) (sym regs_told) ∙ z)

        pub regs_laid :
            {regs : List ℕ} →
            f.number ≡ 0 →
            regs ≡ numbers_over (reading_at (Regs cells b.width) b.props b.pool index) 13 (take (length regs₀) (take count array)) regs₀ →
            regs ≡ laid_over (reg_list b) regs₀
        regs_laid z e =
            e
            ∙ numbers_found b k.well keys_are (all_listed room (length regs₀) regs_room) k.cells_are 13 regs₀
            (ap (λ (g : Fault). g.number) (sym regs_told) ∙ z)

      -- rule 17
      module _
          {f : Fault}
          (told_is : f ≡ first_record (reading_at Phandles b.props b.pool index) 17 (take 256 (take count array))) where
        pub phandles_told : f ≡ phandles_fault b
        phandles_told = told_is ∙ numbers_stage b k.well keys_are (all_listed room 256 (omega arith)) {wanted = Phandles} refl 17

        pub phandles_rest : survey_fault b ≡ from_phandles b → f.number ≡ 0 → survey_fault b ≡ leaves_fault (tree_of b) (cpu_list b)
        phandles_rest e z = e ∙ or_second (phandles_fault b) _ (ap (λ (g : Fault). g.number) (sym phandles_told) ∙ z)

        module _
            (z : f.number ≡ 0) (phandles : List ℕ)
            (e : phandles ≡ numbers_over (reading_at Phandles b.props b.pool index) 17 (take 256 (take count array)) (replicate 256 0)) where
          laid : phandles ≡ laid_over (phandle_list b) (replicate 256 0)
          laid =
              e
              ∙ numbers_found b k.well keys_are (all_listed room 256 (omega arith)) {wanted = Phandles} refl 17 _
              (ap (λ (g : Fault). g.number) (sym phandles_told) ∙ z)

          as_many : count ≡ length (phandle_list b)
          as_many = count_is ∙ sym (length-map (cpu_list b) _)

          few_phandles : length (phandle_list b) ≤ length (replicate {A = ℕ} 256 0)
          few_phandles = omega (arith, as_many, count_is, k.few, length-replicate {A = ℕ} 256 0)

          pub phandles_fit : count ≤ length phandles
          phandles_fit = front_fits _ _ laid as_many few_phandles

          pub phandles_size : count ≡ length (take count phandles)
          phandles_size = front_size _ _ laid as_many few_phandles

          lent_are : take count phandles ≡ phandle_list b
          lent_are = front_is _ _ laid as_many few_phandles

          few_lent : length (take count phandles) ≤ max_cpus
          few_lent = rw lent_are (omega (arith, few_phandles, length-replicate {A = ℕ} 256 0))

          -- rules 18 to 26
          module _ {map : MapScan} (map_is : map ≡ map_scan b.nodes b.pool) (found : map.fault.number ≡ 0) where
            tree_here : lent_tree b.nodes b.props b.pool index map.map (take count phandles) ≡ tree_of b
            tree_here =
                tree_is b k.well keys_are (listed_is room)
                (ap (λ (m : MapScan). m.map) map_is ∙ map_root b.nodes b.pool (map_clear map_is found)) lent_are few_lent

            module _
                {scan : TreeScan}
                (scan_is : scan ≡ tree_scan (lent_tree b.nodes b.props b.pool index map.map (take count phandles)) (take count array)) where
              scanned : scan ≡ tree_scan (tree_of b) (cpu_list b)
              scanned = scan_is ∙ ap₂ tree_scan tree_here (listed_is room)

              pub tree_told : scan.fault ≡ leaves_fault (tree_of b) (cpu_list b)
              tree_told = ap (λ (r : TreeScan). r.fault) scanned

              module _ (clear : scan.fault.number ≡ 0) where
                clear_tree : (leaves_fault (tree_of b) (cpu_list b)).number ≡ 0
                clear_tree = ap (λ (g : Fault). g.number) (sym tree_told) ∙ clear

                pub leaves_counted : scan.count ≡ length (leaves_of b)
                leaves_counted = ap (λ (r : TreeScan). r.count) scanned ∙ rw (eq-eqb _ 0 clear_tree)

                pub leaves_laid :
                    {leaves : List ℕ} (leaves₀ : List ℕ) →
                    leaves ≡ leaves_over (lent_tree b.nodes b.props b.pool index map.map (take count phandles)) leaves₀ →
                    leaves ≡ laid_over (leaves_of b) leaves₀
                leaves_laid leaves₀ e =
                    e ∙ ap (λ (t : Tree). leaves_over t leaves₀) tree_here ∙ leaves_listed (tree_of b) (cpu_list b) clear_tree _

                pub named_laid :
                    {named : List ℕ} (named₀ : List ℕ) →
                    named ≡ named_over (lent_tree b.nodes b.props b.pool index map.map (take count phandles)) named₀ →
                    named ≡ laid_over (named_of b) named₀
                named_laid named₀ e =
                    e ∙ ap (λ (t : Tree). named_over t named₀) tree_here ∙ named_listed (tree_of b) (cpu_list b) clear_tree _
