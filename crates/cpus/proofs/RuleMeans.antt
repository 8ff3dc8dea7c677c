-- SPDX-License-Identifier: BSD-2-Clause OR GPL-2.0-or-later
-- What a broken rule of 9 to 13, 17, 36 and 37 refutes of the place where it is told. Assumes well-formed tables where it says so.
use mathlib.Core.Path.{◌≡◌, refl, ap}
use mathlib.Core.Logic.{◌⊎◌, inl, inr, ⊎_elim, ◌↔◌}
use mathlib.Core.List.{List}
use Prim.Native.Nat.{ℕ, ◌≤◌, ◌<◌}
use native.Mathlib.Omega.{arith}
use lib.ListN.{length, get_or}
use Rattle.laws.proofs.ListingLaws.{listing_unique}
use Rattle.tables.specs.facts.Board.{Board, node_count, node_name}
use Rattle.wellformed.specs.facts.Order.{stage}
use Rattle.tables.specs.facts.Property.{HasValue}
use Rattle.wellformed.specs.facts.Rules.{WellFormed}
use Rattle.tables.specs.facts.Binding.{reg_key, device_type_key, cpus_word, cpu_string}
use Rattle.cpus.specs.facts.Node.{Cpu, SizeCells, Reg}
use Rattle.cpus.specs.facts.Rules.{CpuRule, CpusNode, PhandleRule}
use Rattle.cpus.specs.answers.Check.{cpu_list}
use Rattle.cpus.proofs.CpuMeans.{cpu_listing, cpu_count_lem}
use Rattle.cpus.proofs.RegMeans.{CellsRead, reg_value, phandle_unique}
use Rattle.cpus.proofs.FaultMeans.{CountRange, CpuSays, OwnPhandle}

-- what a broken rule of 9 to 13, 36 and 37 refutes, by its stage
pub data Staged (b : Board) : ℕ → ℕ → ℕ → Type 0 where
  name : (node_name b 0 ≡ cpus_word → ⊥) → Staged b (stage 9) 9 0
  address : (CellsRead b → ⊥) → Staged b (stage 36) 36 0
  size : (SizeCells b → ⊥) → Staged b (stage 37) 37 0
  count : (WellFormed b → CountRange b → ⊥) → Staged b (stage 10) 10 0
  cpu : {m q : ℕ} → Cpu b q → (WellFormed b → (v : ℕ) → CpuSays b q v → (v ≡ 0 → ⊥) × (v ≤ m)) → Staged b (stage 11) m q

module _ {b : Board} where
  -- a number told of a record that breaks rule 11, 12 or 13 is not 0 and not larger
  no_type : {q v : ℕ} → Cpu b q → (HasValue b q device_type_key cpu_string → ⊥) → CpuSays b q v → (v ≡ 0 → ⊥) × (v ≤ 11)
  no_type c f (CpuSays.other n) = absurd (n c)
  no_type c f (CpuSays.untyped _ _) = (λ z. omega arith, omega arith)
  no_type c f (CpuSays.unread _ k _) = absurd (f k)
  no_type c f (CpuSays.repeated _ k _ _ _ _) = absurd (f k)
  no_type c f (CpuSays.sound _ k _ _) = absurd (f k)

  no_reg : {q v : ℕ} → Cpu b q → ((u l : ℕ) → Reg b q u l → ⊥) → CpuSays b q v → (v ≡ 0 → ⊥) × (v ≤ 12)
  no_reg c f (CpuSays.other n) = absurd (n c)
  no_reg c f (CpuSays.untyped _ _) = (λ z. omega arith, omega arith)
  no_reg c f (CpuSays.unread _ _ _) = (λ z. omega arith, omega arith)
  no_reg c f (CpuSays.repeated {u = u} {l = l} _ _ r _ _ _) = absurd (f u l r)
  no_reg c f (CpuSays.sound {u = u} {l = l} _ _ r _) = absurd (f u l r)

  twice :
      {q j v : ℕ} {value : List ℕ} →
      WellFormed b →
      Cpu b q →
      Cpu b j →
      j < q →
      HasValue b q reg_key value →
      HasValue b j reg_key value →
      CpuSays b q v →
      (v ≡ 0 → ⊥) × (v ≤ 13)
  twice well c d lt g h (CpuSays.other n) = absurd (n c)
  twice well c d lt g h (CpuSays.untyped _ _) = (λ z. omega arith, omega arith)
  twice well c d lt g h (CpuSays.unread _ _ _) = (λ z. omega arith, omega arith)
  twice well c d lt g h (CpuSays.repeated _ _ _ _ _ _) = (λ z. omega arith, omega arith)
  twice {q} {j} well c d lt g h (CpuSays.sound _ _ r first) = absurd (first j lt d (reg_value well g h r))

  pub staged : {m q : ℕ} → CpuRule b m q → Staged b (stage m) m q
  staged (CpuRule.cpus_node_name f) = Staged.name f
  staged (CpuRule.cpus_address_cells f) = Staged.address (f _)
  staged (CpuRule.cpus_size_cells f) = Staged.size f
  staged (CpuRule.cpu_count_none f) = Staged.count (λ well r. f (get_or (cpu_list b) 0 0) ((cpu_listing well).only 0 (omega (arith, r.0, cpu_count_lem b))))
  staged (CpuRule.cpu_count_many l h lt) =
      Staged.count (λ well r. omega (arith, r.1, cpu_count_lem b, ap length (listing_unique l (cpu_list b) h (cpu_listing well))))
  staged (CpuRule.cpu_device_type i c f) = Staged.cpu c (λ _ _. no_type c f)
  staged (CpuRule.cpu_reg i c f) = Staged.cpu c (λ _ _. no_reg c f)
  staged (CpuRule.duplicate_cpu_reg i j value c d lt g h) = Staged.cpu c (λ well _. twice well c d lt g h)

  -- the stages of rules 9 to 13, 36 and 37, and of rule 17
  pub cpu_staged : {s m q : ℕ} → Staged b s m q → (stage 9 ≤ s) × (s < stage 15)
  cpu_staged (Staged.name _) = omega arith
  cpu_staged (Staged.address _) = omega arith
  cpu_staged (Staged.size _) = omega arith
  cpu_staged (Staged.count _) = omega arith
  cpu_staged (Staged.cpu _ _) = omega arith

  pub phandle_staged : {m q : ℕ} → PhandleRule b m q → (stage 17 ≤ stage m) × (stage m < stage 18)
  phandle_staged (PhandleRule.cpu_phandle _ _ _) = omega arith
  phandle_staged (PhandleRule.cpu_phandle_taken _ _ _ _ _ _ _ _) = omega arith

  -- 01's rule 9 is broken exactly where 9, 36 or 37 is
  pub nine : CpusNode b ↔ (CpuRule b 9 0 ⊎ (CpuRule b 36 0 ⊎ CpuRule b 37 0))
  nine = (split, ⊎_elim name (⊎_elim address size))
    where
      split : CpusNode b → CpuRule b 9 0 ⊎ (CpuRule b 36 0 ⊎ CpuRule b 37 0)
      split (CpusNode.name f) = inl (CpuRule.cpus_node_name f)
      split (CpusNode.address_cells f) = inr (inl (CpuRule.cpus_address_cells f))
      split (CpusNode.size_cells f) = inr (inr (CpuRule.cpus_size_cells f))

      name : CpuRule b 9 0 → CpusNode b
      name (CpuRule.cpus_node_name f) = CpusNode.name f

      address : CpuRule b 36 0 → CpusNode b
      address (CpuRule.cpus_address_cells f) = CpusNode.address_cells f

      size : CpuRule b 37 0 → CpusNode b
      size (CpuRule.cpus_size_cells f) = CpusNode.size_cells f

  pub name_broken : {m q : ℕ} → Staged b (stage 9) m q → (m ≡ 9) × (q ≡ 0) × ((node_name b 0 ≡ cpus_word) → ⊥)
  name_broken (Staged.name f) = (refl, refl, f)

  pub address_broken : {m q : ℕ} → Staged b (stage 36) m q → (m ≡ 36) × (q ≡ 0) × (CellsRead b → ⊥)
  address_broken (Staged.address f) = (refl, refl, f)

  pub size_broken : {m q : ℕ} → Staged b (stage 37) m q → (m ≡ 37) × (q ≡ 0) × (SizeCells b → ⊥)
  size_broken (Staged.size f) = (refl, refl, f)

  module _ (well : WellFormed b) where
    pub count_broken : {m q : ℕ} → Staged b (stage 10) m q → (m ≡ 10) × (q ≡ 0) × (CountRange b → ⊥)
    count_broken (Staged.count f) = (refl, refl, f well)

    pub cpu_broken : {m q : ℕ} → Staged b (stage 11) m q → (q < node_count b.nodes) × ((v : ℕ) → CpuSays b q v → (v ≡ 0 → ⊥) × (v ≤ m))
    cpu_broken (Staged.cpu c f) = (c.child.inside, f well)

    -- rule 17
    pub phandle_broken : {m q : ℕ} → PhandleRule b m q → (m ≡ 17) × (q < node_count b.nodes) × (OwnPhandle b q → ⊥)
    phandle_broken (PhandleRule.cpu_phandle i c f) = (refl, c.child.inside, λ own. let t = own c in f t.0 t.1)
    phandle_broken (PhandleRule.cpu_phandle_taken i j h c d lt p q) =
        (refl, c.child.inside, λ own. let t = own c in t.2 j lt d (rw (phandle_unique well p t.1) at q))
