-- SPDX-License-Identifier: BSD-2-Clause OR GPL-2.0-or-later
-- What sound cpu nodes have. Assumes nothing.
use mathlib.Core.Path.{◌≡◌, sym, ◌∙◌}
use mathlib.Core.Logic.{⊎_elim}
use Prim.Native.Nat.{ℕ, ◌<◌}
use Rattle.laws.proofs.FirstLaws.{compared}
use Rattle.laws.proofs.VerdictLaws.{held}
use Rattle.tables.specs.facts.Board.{Board, WordSized}
use Rattle.wellformed.specs.facts.Rules.{WellFormed}
use Rattle.cpus.specs.facts.Told.{CpuReading}
use Rattle.cpus.specs.facts.Node.{Cpu, Reg, reg_number, Phandle}
use Rattle.cpus.specs.facts.Rules.{CpuRule, SoundCpus, PhandleRule, SoundPhandles}
use Rattle.cpus.specs.answers.Check.{reg_at, phandle_readings}
use Rattle.cpus.proofs.RegMeans.{reg_lower, value_reg, RegSays, reg_says, PhandleSays, phandle_says}
use Rattle.cpus.proofs.PairMeans.{pair_apart}
use Rattle.cpus.proofs.FaultMeans.{Root, CountRange, name_told, address_told, size_told, count_told}

-- records of which neither can be the earlier are the same
same_record : (i j : ℕ) → (j < i → ⊥) → (i < j → ⊥) → i ≡ j
same_record i j f g = ⊎_elim (λ lt. absurd (g lt)) (⊎_elim (λ e. e) (λ lt. absurd (f lt))) (compared i j)

module _ {b : Board} (sized : WordSized b) (well : WellFormed b) where
  module _ (sound : SoundCpus b) where
    -- `/cpus` itself, and the number of cpu records
    pub root_given : Root b
    root_given =
        record {
          name = held (name_told sized well) (sound 9 0);
          cells = held (address_told sized well) (sound 36 0);
          size = held (size_told sized well) (sound 37 0);
        }

    pub count_range : CountRange b
    count_range = held (count_told sized well) (sound 10 0)

    -- each cpu record has a `reg` ..
    pub cpu_reg_lem : {i : ℕ} → Cpu b i → (u : ℕ) × (l : ℕ) × Reg b i u l × (reg_at b i ≡ reg_number u l)
    cpu_reg_lem {i} c = go (reg_says sized well i root_given.cells)
      where
        go : {q : CpuReading} → RegSays b i q → (u : ℕ) × (l : ℕ) × Reg b i u l × (q.value ≡ reg_number u l)
        go (RegSays.reg {u = u} {l = l} _ r e) = (u, l, r, e)
        go (RegSays.untyped f) = absurd (sound 11 i (CpuRule.cpu_device_type i c f))
        go (RegSays.unread _ f) = absurd (sound 12 i (CpuRule.cpu_reg i c f))

    -- .. and no other cpu record has the same
    pub reg_apart : {i j u l : ℕ} → Cpu b i → Cpu b j → Reg b i u l → Reg b j u l → i ≡ j
    reg_apart {i} {j} c d r s = same_record i j (later c d r s) (later d c s r)
      where
        later : {i j u l : ℕ} → Cpu b i → Cpu b j → Reg b i u l → Reg b j u l → j < i → ⊥
        later {i} {j} c d r s lt = let t = value_reg well r s in sound 13 i (CpuRule.duplicate_cpu_reg i j t.0 c d lt t.1 t.2)

    pub reg_distinct : {i j : ℕ} → Cpu b i → Cpu b j → reg_at b i ≡ reg_at b j → i ≡ j
    reg_distinct c d e =
        let r = cpu_reg_lem c in
        let s = cpu_reg_lem d in
        let p = pair_apart r.0 r.1 (reg_lower r.2) s.0 s.1 (reg_lower s.2) (sym r.3 ∙ e ∙ s.3) in
        reg_apart c d r.2 (rw (p.0, p.1) s.2)

  module _ (sound : SoundPhandles b) where
    -- each cpu record has a phandle ..
    pub cpu_phandle_lem : {i : ℕ} → Cpu b i → Phandle b i (phandle_readings b i).value
    cpu_phandle_lem {i} c = go (phandle_says sized well i)
      where
        go : {q : CpuReading} → PhandleSays b i q → Phandle b i q.value
        go (PhandleSays.phandle p) = p
        go (PhandleSays.none f) = absurd (sound 17 i (PhandleRule.cpu_phandle i c f))

    -- .. and no other cpu record has the same
    pub phandle_apart : {i j h : ℕ} → Cpu b i → Cpu b j → Phandle b i h → Phandle b j h → i ≡ j
    phandle_apart {i} {j} c d p q = same_record i j (later c d p q) (later d c q p)
      where
        later : {i j h : ℕ} → Cpu b i → Cpu b j → Phandle b i h → Phandle b j h → j < i → ⊥
        later {i} {j} {h} c d p q lt = sound 17 i (PhandleRule.cpu_phandle_taken i j h c d lt p q)

    pub phandle_distinct : {i j : ℕ} → Cpu b i → Cpu b j → (phandle_readings b i).value ≡ (phandle_readings b j).value → i ≡ j
    phandle_distinct c d e = phandle_apart c d (cpu_phandle_lem c) (rw (sym e) at (cpu_phandle_lem d))
