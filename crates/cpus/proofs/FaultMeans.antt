-- SPDX-License-Identifier: BSD-2-Clause OR GPL-2.0-or-later
-- What the checks of rules 9 to 13, 17, 36 and 37 answer of one place: what the board then has, or the rule that it breaks. Assumes nothing.
use Rattle.std.specs.Prelude.{Option}
use Rattle.cpus.specs.declared.Cells.{Cells}
use mathlib.Core.Path.{◌≡◌, refl, sym, ap₂, ◌∙◌}
use mathlib.Core.Bool.{Bool, true, false, cond}
use Prim.Native.Nat.{ℕ, ◌≤◌, ◌<◌}
use native.Mathlib.Omega.{arith}
use lib.Dec.{eqb, ltb}
use borrow.Author.Tests.{eqb-true, eqb-false, ltb-true, ltb-false}
use Rattle.laws.proofs.DecideLaws.{Decides, decides_not, decides_as, eq_decides}
use Rattle.laws.proofs.VerdictLaws.{Verdict}
use Rattle.tables.specs.facts.Board.{Board, WordSized, node_name, name_offset, name_length}
use Rattle.tables.specs.answers.Range.{range_is}
use Rattle.tables.specs.facts.Property.{HasValue}
use Rattle.wellformed.specs.facts.Rules.{WellFormed}
use Rattle.wellformed.proofs.WellFormedLaws.{wf_nodes, wf_name}
use Rattle.tables.specs.facts.Binding.{device_type_key, cpus_word, cpu_string, size_cells_key}
use Rattle.cpus.specs.facts.Node.{Cpu, AddressCells, SizeCells, Reg, reg_number, Phandle}
use Rattle.laws.specs.facts.Limits.{max_cpus}
use Rattle.cpus.specs.facts.Rules.{CpuRule, PhandleRule}
use Rattle.cpus.specs.answers.Cell.{cell_of, is_number}
use Rattle.cpus.specs.facts.Told.{CpuReading}
use Rattle.cpus.specs.answers.Numbers.{unless_seen}
use Rattle.cpus.specs.answers.Check.{address_cells, cells_of, name_fault, address_fault, size_fault, is_cpu}
use Rattle.cpus.specs.answers.Check.{cpu_count, cpu_list, count_fault, reg_readings}
use Rattle.cpus.specs.answers.Check.{phandle_readings}
use Rattle.cpus.proofs.ScanLaws.{gather_fault, seen_decides}
use Rattle.tables.proofs.DecideLaws.{range_test}
use Rattle.cpus.proofs.CpuMeans.{cpu_test, cpu_listing, cpu_count_lem}
use Rattle.cpus.proofs.ValueMeans.{number_test}
use Rattle.cpus.proofs.RegMeans.{count_of, CellsRead, CellsSay, cells_say, reg_lower, reg_unique, RegSays, reg_says, reg_read}
use Rattle.cpus.proofs.RegMeans.{PhandleSays, phandle_says, phandle_read, phandle_unique}
use Rattle.cpus.proofs.PairMeans.{pair_apart}

-- rules 9, 36 and 37
pub record Root (b : Board) : Type 0 where
  pub name : node_name b 0 ≡ cpus_word
  pub cells : CellsRead b
  pub size : SizeCells b

-- rule 10
abbrev pub CountRange : Board → Type 0
CountRange b = (1 ≤ cpu_count b) × (cpu_count b ≤ max_cpus)

-- rules 11 to 13: what the smallest number that record i breaks says of it
pub data CpuSays (b : Board) (i : ℕ) : ℕ → Type 0 where
  other : (Cpu b i → ⊥) → CpuSays b i 0
  untyped : Cpu b i → (HasValue b i device_type_key cpu_string → ⊥) → CpuSays b i 11
  unread : Cpu b i → HasValue b i device_type_key cpu_string → ((u l : ℕ) → Reg b i u l → ⊥) → CpuSays b i 12
  repeated : {u l j : ℕ} → Cpu b i → HasValue b i device_type_key cpu_string → Reg b i u l → j < i → Cpu b j → Reg b j u l → CpuSays b i 13
  sound : {u l : ℕ} → Cpu b i → HasValue b i device_type_key cpu_string → Reg b i u l → ((j : ℕ) → j < i → Cpu b j → Reg b j u l → ⊥) → CpuSays b i 0

-- rule 17: a cpu record has a phandle that no earlier cpu record has
abbrev pub OwnPhandle : Board → ℕ → Type 0
OwnPhandle b i = Cpu b i → (h : ℕ) × Phandle b i h × ((j : ℕ) → j < i → Cpu b j → Phandle b j h → ⊥)

-- what the cpu records tell, place by place
abbrev pub cpu_fault_at : Board → ℕ → ℕ
cpu_fault_at b = gather_fault (is_cpu b.nodes b.pool) (reg_readings b) 13

abbrev pub phandle_fault_at : Board → ℕ → ℕ
phandle_fault_at b = gather_fault (is_cpu b.nodes b.pool) (phandle_readings b) 17

module _ {b : Board} (sized : WordSized b) (well : WellFormed b) where
  pub name_told : Verdict (CpuRule b) 9 0 (node_name b 0 ≡ cpus_word) (name_fault b)
  name_told =
      go
      (range_is b.pool (name_offset b.nodes 0) (name_length b.nodes 0) cpus_word)
      (range_test b.pool (name_offset b.nodes 0) (name_length b.nodes 0) cpus_word (wf_name well 0 (wf_nodes well).0).inside)
    where
      go : (t : Bool) → Decides t (node_name b 0 ≡ cpus_word) → Verdict (CpuRule b) 9 0 (node_name b 0 ≡ cpus_word) (cond t 0 9)
      go false name = Verdict.broken (CpuRule.cpus_node_name ((decides_not name).0 refl))
      go true name = Verdict.sound (name.0 refl)

  pub address_told : Verdict (CpuRule b) 36 0 (CellsRead b) (address_fault (address_cells b))
  address_told = go (cells_say sized well)
    where
      go : {r : Option Cells} → CellsSay b r → Verdict (CpuRule b) 36 0 (AddressCells b (count_of (cells_of r))) (address_fault r)
      go (CellsSay.none f) = Verdict.broken (CpuRule.cpus_address_cells f)
      go (CellsSay.cells a) = Verdict.sound a

  pub size_told : Verdict (CpuRule b) 37 0 (SizeCells b) (size_fault (cell_of b.props b.pool 0 size_cells_key))
  size_told = go (is_number (cell_of b.props b.pool 0 size_cells_key) 0) (number_test sized well 0 size_cells_key 0 (omega arith))
    where
      go : (t : Bool) → Decides t (SizeCells b) → Verdict (CpuRule b) 37 0 (SizeCells b) (cond t 0 37)
      go false size = Verdict.broken (CpuRule.cpus_size_cells ((decides_not size).0 refl))
      go true size = Verdict.sound (size.0 refl)

  pub count_told : Verdict (CpuRule b) 10 0 (CountRange b) (count_fault (cpu_count b))
  count_told = go (eqb (cpu_count b) 0) refl (ltb max_cpus (cpu_count b)) refl
    where
      go :
          (t : Bool) →
          eqb (cpu_count b) 0 ≡ t →
          (s : Bool) →
          ltb max_cpus (cpu_count b) ≡ s →
          Verdict (CpuRule b) 10 0 (CountRange b) (cond t 10 (cond s 10 0))
      go true e s f =
          let z = eqb-true (cpu_count b) 0 e in
          Verdict.broken (CpuRule.cpu_count_none (λ i c. let m = (cpu_listing well).all i c in omega (arith, m.inside, cpu_count_lem b)))
      go false e true f =
          let lt = ltb-true max_cpus (cpu_count b) f in
          Verdict.broken (CpuRule.cpu_count_many (cpu_list b) (cpu_listing well) (omega (arith, cpu_count_lem b)))
      go false e false f =
          let ne = eqb-false (cpu_count b) 0 e in
          Verdict.sound (omega arith, ltb-false max_cpus (cpu_count b) f)

  -- of two sound readings: the same number, the same `reg`
  same_reg :
      CellsRead b →
      {i j u l : ℕ} →
      Reg b i u l →
      (reg_readings b i).number ≡ 0 →
      (reg_readings b j).number ≡ 0 →
      Decides (eqb (reg_readings b j).value (reg_readings b i).value) (Reg b j u l)
  same_reg a {i} {j} {u} {l} r zi zj =
      let s = reg_read sized well i a zi in
      let t = reg_read sized well j a zj in
      let own = reg_unique well s.2 r in
      decides_as (eq_decides (reg_readings b j).value (reg_readings b i).value)
      (λ e.
      let p = pair_apart t.0 t.1 (reg_lower t.2) s.0 s.1 (reg_lower s.2) (sym t.3 ∙ e ∙ s.3) in
      rw (← own.0, ← own.1, ← p.0, ← p.1) t.2)
      (λ q. let other = reg_unique well t.2 q in t.3 ∙ ap₂ reg_number other.0 other.1 ∙ sym (s.3 ∙ ap₂ reg_number own.0 own.1))

  pub cpu_says : CellsRead b → (i : ℕ) → ((j : ℕ) → j < i → cpu_fault_at b j ≡ 0) → CpuSays b i (cpu_fault_at b i)
  unfolding gather_fault
  cpu_says a i none =
      go (is_cpu b.nodes b.pool i) (cpu_test well i) (reg_says sized well i a) _
      (λ u l r z. seen_decides (is_cpu b.nodes b.pool) (reg_readings b) 13 i none (λ j. same_reg a r z))
    where
      go :
          (t : Bool) →
          Decides t (Cpu b i) →
          {q : CpuReading} →
          RegSays b i q →
          (seen : Bool) →
          ((u l : ℕ) → Reg b i u l → q.number ≡ 0 → Decides seen ((j : ℕ) × (j < i) × ((is_cpu b.nodes b.pool j ≡ true) × Reg b j u l))) →
          CpuSays b i (cond t (unless_seen 13 seen q).number 0)
      go false cpu q seen e = CpuSays.other ((decides_not cpu).0 refl)
      go true cpu (RegSays.untyped f) seen e = CpuSays.untyped (cpu.0 refl) f
      go true cpu (RegSays.unread k f) seen e = CpuSays.unread (cpu.0 refl) k f
      go true cpu (RegSays.reg {u = u} {l = l} k r _) true e =
          let t = (e u l r refl).0 refl in
          CpuSays.repeated (cpu.0 refl) k r t.1 ((cpu_test well t.0).0 t.2.0) t.2.1
      go true cpu (RegSays.reg {u = u} {l = l} k r _) false e =
          CpuSays.sound (cpu.0 refl) k r (λ j lt c s. (decides_not (e u l r refl)).0 refl (j, lt, ((cpu_test well j).1 c, s)))

  pub phandle_told : (i : ℕ) → ((j : ℕ) → j < i → phandle_fault_at b j ≡ 0) → Verdict (PhandleRule b) 17 i (OwnPhandle b i) (phandle_fault_at b i)
  unfolding gather_fault
  phandle_told i none =
      go (is_cpu b.nodes b.pool i) (cpu_test well i) (phandle_says sized well i) _
      (λ h p z. seen_decides (is_cpu b.nodes b.pool) (phandle_readings b) 17 i none (λ j. same h p z j))
    where
      same :
          (h : ℕ) →
          Phandle b i h →
          (phandle_readings b i).number ≡ 0 →
          (j : ℕ) →
          (phandle_readings b j).number ≡ 0 →
          Decides (eqb (phandle_readings b j).value (phandle_readings b i).value) (Phandle b j h)
      same h p zi j zj =
          let own = phandle_unique well (phandle_read sized well i zi) p in
          decides_as (eq_decides (phandle_readings b j).value (phandle_readings b i).value)
          (λ e. rw (e ∙ own) at (phandle_read sized well j zj))
          (λ q. phandle_unique well (phandle_read sized well j zj) q ∙ sym own)

      go :
          (t : Bool) →
          Decides t (Cpu b i) →
          {q : CpuReading} →
          PhandleSays b i q →
          (seen : Bool) →
          ((h : ℕ) → Phandle b i h → q.number ≡ 0 → Decides seen ((j : ℕ) × (j < i) × ((is_cpu b.nodes b.pool j ≡ true) × Phandle b j h))) →
          Verdict (PhandleRule b) 17 i (OwnPhandle b i) (cond t (unless_seen 17 seen q).number 0)
      go false cpu q seen e = Verdict.sound (λ k. absurd ((decides_not cpu).0 refl k))
      go true cpu (PhandleSays.none f) seen e = Verdict.broken (PhandleRule.cpu_phandle i (cpu.0 refl) f)
      go true cpu (PhandleSays.phandle {h = h} p) true e =
          let t = (e h p refl).0 refl in
          Verdict.broken (PhandleRule.cpu_phandle_taken i t.0 h (cpu.0 refl) ((cpu_test well t.0).0 t.2.0) t.1 p t.2.1)
      go true cpu (PhandleSays.phandle {h = h} p) false e =
          Verdict.sound (λ _. (h, p, λ j lt c q. (decides_not (e h p refl)).0 refl (j, lt, ((cpu_test well j).1 c, q))))
