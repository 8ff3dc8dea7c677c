-- SPDX-License-Identifier: BSD-2-Clause OR GPL-2.0-or-later
-- The checks of rules 9 to 13, 36 and 37 and of rule 17 tell the first of them that is broken. Assumes nothing.
use Rattle.std.specs.Prelude.{Option}
use mathlib.Core.Path.{◌≡◌, refl}
use Prim.Native.Nat.{ℕ, ◌≤◌}
use native.Mathlib.Omega.{arith}
use Rattle.laws.specs.answers.Fault.{told, or_else, first_fault, with_second}
use Rattle.laws.proofs.FaultLaws.{place_le}
use Rattle.laws.proofs.FirstLaws.{NoneIn, Tells, Stage, stage_tells}
use Rattle.laws.proofs.RuleStageLaws.{told_place, else_place, then_tells}
use Rattle.laws.proofs.SecondPlaceLaws.{second_tells}
use Rattle.laws.proofs.VerdictLaws.{held, number_stage, once_tells}
use Rattle.tables.specs.facts.Binding.{address_cells_key, size_cells_key}
use Rattle.tables.specs.answers.Lookup.{lookup, record_of}
use Rattle.tables.specs.facts.Board.{Board, WordSized, node_count}
use Rattle.wellformed.specs.facts.Order.{stage}
use Rattle.wellformed.specs.facts.Rules.{WellFormed}
use Rattle.cpus.specs.answers.Cell.{cell_of}
use Rattle.cpus.specs.facts.Rules.{CpuRule, SoundCpus, PhandleRule, SoundPhandles}
use Rattle.cpus.specs.answers.Check.{is_cpu, address_cells, name_fault, address_fault, size_fault, told_of_root, root_fault, cpu_count}
use Rattle.cpus.specs.answers.Check.{count_fault, reg_readings, phandle_readings, cpu_fault, cpus_fault, phandles_fault}
use Rattle.cpus.proofs.ScanLaws.{first_gathered}
use Rattle.cpus.proofs.RegMeans.{CellsRead, value_reg}
use Rattle.cpus.proofs.FaultMeans.{CpuSays, OwnPhandle, cpu_fault_at, phandle_fault_at, name_told, address_told}
use Rattle.cpus.proofs.FaultMeans.{size_told, count_told, cpu_says, phandle_told}
use Rattle.cpus.proofs.RuleMeans.{staged, cpu_staged, phandle_staged, name_broken, address_broken}
use Rattle.cpus.proofs.RuleMeans.{size_broken, count_broken, cpu_broken, phandle_broken}

-- the stages of the cpu records, place by place
module _ (b : Board) where
  cpu_places : cpu_fault b ≡ with_second (λ i. (reg_readings b i).second) (first_fault (cpu_fault_at b) (node_count b.nodes))
  cpu_places = first_gathered (is_cpu b.nodes b.pool) (reg_readings b) 13 (node_count b.nodes)

  phandle_places : phandles_fault b ≡ with_second (λ i. (phandle_readings b i).second) (first_fault (phandle_fault_at b) (node_count b.nodes))
  phandle_places = first_gathered (is_cpu b.nodes b.pool) (phandle_readings b) 17 (node_count b.nodes)

module _ {b : Board} (sized : WordSized b) (well : WellFormed b) where
  cpu_stage : CellsRead b → Stage stage (CpuRule b) (stage 11) (node_count b.nodes) (cpu_fault_at b)
  cpu_stage a =
      record {
        inside = λ m q r e. (cpu_broken well (rw e at (staged r))).0;
        smallest = λ q _ none.
            let says = cpu_says sized well a q none in
            record { sound = broken says; least = λ m r e. (cpu_broken well (rw e at (staged r))).1 (cpu_fault_at b q) says };
      }
    where
      broken : {q v : ℕ} → CpuSays b q v → (v ≡ 0 → ⊥) → CpuRule b v q × (stage v ≡ stage 11)
      broken (CpuSays.other _) ne = absurd (ne refl)
      broken {q} (CpuSays.untyped c f) ne = (CpuRule.cpu_device_type q c f, refl)
      broken {q} (CpuSays.unread c _ f) ne = (CpuRule.cpu_reg q c f, refl)
      broken {q} (CpuSays.repeated {j = j} c _ r lt d s) ne =
          let t = value_reg well r s in
          (CpuRule.duplicate_cpu_reg q j t.0 c d lt t.1 t.2, refl)
      broken (CpuSays.sound _ _ _ _) ne = absurd (ne refl)

  -- rules 9, 36 and 37, in their stages
  root_tells : Tells stage (CpuRule b) (stage 9) (stage 10) (root_fault b)
  unfolding root_fault
  root_tells =
      then_tells stage (CpuRule b) (omega arith) (omega arith)
      (once_tells stage (CpuRule b) 9 (omega arith) (λ m q r e. name_broken (rw e at (staged r))) (name_told sized well)) λ _.
      then_tells stage (CpuRule b) (omega arith) (omega arith)
      (second_tells (λ i. record_of (lookup b.props b.pool i address_cells_key))
      (once_tells stage (CpuRule b) 36 (omega arith) (λ m q r e. address_broken (rw e at (staged r))) (address_told sized well))) λ _.
      second_tells (λ i. record_of (lookup b.props b.pool i size_cells_key))
      (once_tells stage (CpuRule b) 37 (omega arith) (λ m q r e. size_broken (rw e at (staged r))) (size_told sized well))

  -- .. and rules 10 to 13 after them
  pub cpus_tells : Tells stage (CpuRule b) (stage 9) (stage 15) (cpus_fault b)
  unfolding cpus_fault
  cpus_tells =
      then_tells stage (CpuRule b) (omega arith) (omega arith) root_tells λ none.
      then_tells stage (CpuRule b) (omega arith) (omega arith)
      (once_tells stage (CpuRule b) 10 (omega arith) (λ m q r e. count_broken well (rw e at (staged r))) (count_told sized well)) λ _.
      rw (cpu_places b)
      (second_tells (λ i. (reg_readings b i).second)
      (stage_tells stage (CpuRule b) (stage 11) (node_count b.nodes) (cpu_fault_at b)
      (cpu_stage (held (address_told sized well) (λ r. none 36 0 (r, omega arith, omega arith))))))

  -- rule 17
  pub phandles_tells : Tells stage (PhandleRule b) (stage 17) (stage 18) (phandles_fault b)
  phandles_tells =
      rw (phandle_places b)
      (second_tells (λ i. (phandle_readings b i).second)
      (stage_tells stage (PhandleRule b) (stage 17) (node_count b.nodes) (phandle_fault_at b)
      (number_stage stage (PhandleRule b) 17 (omega arith) (OwnPhandle b) (λ m q r _. phandle_broken well r) (λ q _. phandle_told sized well q))))

-- where nothing is told the cpu nodes and the phandles are sound
module _ {b : Board} where
  pub cpus_kept : NoneIn stage (CpuRule b) (stage 9) (stage 15) → SoundCpus b
  cpus_kept none n p r = let t = cpu_staged (staged r) in none n p (r, t.0, t.1)

  pub phandles_kept : NoneIn stage (PhandleRule b) (stage 17) (stage 18) → SoundPhandles b
  phandles_kept none n p r = let t = phandle_staged r in none n p (r, t.0, t.1)

-- of which places they are told
module _ (b : Board) where
  root_place : (root_fault b).place ≤ 0
  unfolding root_fault
  root_place =
      else_place (told (name_fault b) 0) _ (told_place (name_fault b) 0)
      (λ _.
      else_place (told_of_root b (address_fault (address_cells b)) address_cells_key) (told_of_root b (size_fault size) size_cells_key)
      (told_place (address_fault (address_cells b)) 0)
      (λ _. told_place (size_fault size) 0))
    where
      size : Option ℕ
      size = cell_of b.props b.pool 0 size_cells_key

  pub cpus_place : (cpus_fault b).place ≤ node_count b.nodes
  unfolding cpus_fault
  cpus_place =
      else_place (root_fault b) (or_else (told (count_fault (cpu_count b)) 0) (cpu_fault b))
      (omega (arith, root_place))
      (λ _.
      else_place (told (count_fault (cpu_count b)) 0) (cpu_fault b)
      (omega (arith, told_place (count_fault (cpu_count b)) 0))
      (λ _. rw (cpu_places b) (place_le (cpu_fault_at b) (node_count b.nodes))))

  pub phandles_place : (phandles_fault b).place ≤ node_count b.nodes
  phandles_place = rw (phandle_places b) (place_le (phandle_fault_at b) (node_count b.nodes))
