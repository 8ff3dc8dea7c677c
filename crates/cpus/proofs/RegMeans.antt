-- SPDX-License-Identifier: BSD-2-Clause OR GPL-2.0-or-later
-- What `#address-cells`, `reg` and `phandle` are read as. Assumes nothing.
use Rattle.std.specs.Prelude.{None, Option, Some}
use Rattle.tables.specs.declared.Found.{Found}
use mathlib.Core.Path.{◌≡◌, refl, sym, ap, ◌∙◌}
use mathlib.Core.Bool.{Bool, true, false, cond}
use mathlib.Core.Logic.{◌⊎◌, inl, inr, ⊎_elim}
use mathlib.Core.List.{List}
use Prim.Native.Nat.{ℕ, ◌/◌, ◌%◌, ◌^◌, ◌<◌}
use native.Mathlib.Omega.{arith}
use lib.Dec.{eqb}
use borrow.Author.Tests.{eqb-true, eqb-false, eq-eqb, ne_eqb}
use Rattle.laws.specs.facts.Limits.{no_property}
use Rattle.laws.proofs.SearchLaws.{true_false}
use Rattle.laws.proofs.DecideLaws.{Decides, decides_not}
use Rattle.affinity.specs.facts.Level.{Affine}
use Rattle.affinity.specs.answers.Level.{is_affine}
use Rattle.affinity.proofs.AffineLaws.{test_affine}
use Rattle.tables.specs.facts.Board.{Board, WordSized, arm64, riscv, HasMpidrs}
use Rattle.tables.specs.facts.Property.{HasValue, cell_bytes}
use Rattle.tables.specs.answers.Lookup.{lookup, record_of}
use Rattle.wellformed.specs.facts.Rules.{WellFormed}
use Rattle.tables.proofs.CellLaws.{cell_bytes_apart}
use Rattle.cpus.specs.declared.Cells.{Cells}
use Rattle.cpus.specs.declared.Cells.TheVariants.{One, Two}
use Rattle.cpus.specs.facts.Told.{CpuReading}
use Rattle.tables.specs.facts.Binding.{reg_key, phandle_key, device_type_key, cpu_string, address_cells_key}
use Rattle.cpus.specs.answers.Cell.{cpu_cell, is_reg, reg_in, phandle_in, cell_of}
use Rattle.cpus.specs.facts.Node.{CellsAllowed, AddressCells, OnlyCell, Reg, reg_number, Phandle}
use Rattle.cpus.specs.answers.Check.{cells_for, address_cells, reg_cells, reg_readings, phandle_readings}
use Rattle.cpus.specs.answers.Numbers.{cpu_reading, number_or, reading_from, reading_of}
use Rattle.cpus.proofs.PairMeans.{limit, value_bytes, bytes_length, bytes_apart, affine_decides, parts_affine, pair_parts, pair_apart}
use Rattle.cpus.proofs.ValueMeans.{value_unique, ValueSays, value_says, cell_says, number_test}

-- one address cell, or on 64-bit ARM two
cells_cases : {width n : ℕ} → CellsAllowed width n → (n ≡ 1) ⊎ ((n ≡ 2) × (width ≡ arm64))
cells_cases CellsAllowed.one = inl refl
cells_cases CellsAllowed.two = inr (refl, refl)

allowed_lt : {width n : ℕ} → CellsAllowed width n → n < 2 ^ 32
allowed_lt c = ⊎_elim (λ e. omega arith) (λ t. omega (arith, t.0)) (cells_cases c)

-- the number that `#address-cells` holds for one cell, and for two
abbrev pub count_of : Cells → ℕ
count_of One = 1
count_of Two = 2

abbrev pub CellsRead : Board → Type 0
CellsRead b = AddressCells b (count_of (reg_cells b))

-- what the address cells say of a board
pub data CellsSay (b : Board) : Option Cells → Type 0 where
  cells : {c : Cells} → AddressCells b (count_of c) → CellsSay b (Some c)
  none : ((n : ℕ) → AddressCells b n → ⊥) → CellsSay b None

-- two address cells are of MPIDRs
two_mpidrs : {b : Board} → AddressCells b 2 → HasMpidrs b
two_mpidrs a e = ⊎_elim (λ one. omega arith) (λ t. omega (arith, t.1)) (cells_cases a.allowed)

-- the test of an MPIDR, and of a `reg`'s only cell
mpidr_test : (width n : ℕ) → (width ≡ riscv → ⊥) → is_reg width n ≡ is_affine n
unfolding is_reg
mpidr_test width n has = rw (ne_eqb width riscv has)

module _ {b : Board} {n : ℕ} where
  only_test : OnlyCell b n → is_reg b.width n ≡ true
  unfolding is_reg
  only_test (OnlyCell.affinity has lt) = rw (ne_eqb b.width riscv has) ((affine_decides n).1 (omega arith, omega arith))
  only_test (OnlyCell.hart e lt) = rw (eq-eqb b.width riscv e)

  test_only : n < 2 ^ 32 → is_reg b.width n ≡ true → OnlyCell b n
  unfolding is_reg
  test_only lt = go (eqb b.width riscv) refl
    where
      go : (t : Bool) → eqb b.width riscv ≡ t → cond t true (is_affine n) ≡ true → OnlyCell b n
      go true e h = OnlyCell.hart (eqb-true b.width riscv e) lt
      go false e h = let t = (affine_decides n).0 h in OnlyCell.affinity (eqb-false b.width riscv e) (omega (arith, t))

  only_lt : OnlyCell b n → n < 2 ^ 32
  only_lt (OnlyCell.affinity has lt) = omega arith
  only_lt (OnlyCell.hart e lt) = lt

-- the lower cell of a `reg`, the test of its number, and the affinity bits of an MPIDR
pub reg_lower : {b : Board} {i u l : ℕ} → Reg b i u l → l < 2 ^ 32
reg_lower (Reg.one_cell a h c) = only_lt c
reg_lower (Reg.two_cells a h hu hl) = omega arith

reg_test : {b : Board} {i u l : ℕ} → Reg b i u l → is_reg b.width (reg_number u l) ≡ true
reg_test (Reg.one_cell {lower = l} a h c) = let e : reg_number 0 l ≡ l = omega arith in rw e (only_test c)
reg_test {b} (Reg.two_cells {upper = u} {lower = l} a h hu hl) = mpidr_test b.width (reg_number u l) (two_mpidrs a) ∙ parts_affine u l hu hl

pub reg_affine : {b : Board} {i u l : ℕ} → HasMpidrs b → Reg b i u l → Affine (reg_number u l)
reg_affine {b} {u = u} {l = l} has r = test_affine (reg_number u l) (sym (mpidr_test b.width (reg_number u l) has) ∙ reg_test r)

module _ {b : Board} (well : WellFormed b) where
  cells_unique : {m n : ℕ} → AddressCells b m → AddressCells b n → m ≡ n
  cells_unique {m} {n} a c = cell_bytes_apart m n (allowed_lt a.allowed) (allowed_lt c.allowed) (value_unique well a.value c.value)

  not_both : {A : Type 0} → AddressCells b 1 → AddressCells b 2 → A
  not_both a c = let e = cells_unique a c in absurd (omega arith)

  -- the same bytes are the same `reg` ..
  pub reg_value : {i j u l : ℕ} {v : List ℕ} → HasValue b i reg_key v → HasValue b j reg_key v → Reg b i u l → Reg b j u l
  reg_value g h (Reg.one_cell a r c) = Reg.one_cell a (rw (value_unique well g r) at h) c
  reg_value g h (Reg.two_cells a r hu hl) = Reg.two_cells a (rw (value_unique well g r) at h) hu hl

  -- a `reg` is a value of so many cells, its number
  reg_number_lem :
      (c : Cells) →
      AddressCells b (count_of c) →
      {i u l : ℕ} →
      Reg b i u l →
      HasValue b i reg_key (value_bytes c (reg_number u l)) × (reg_number u l < limit c)
  reg_number_lem One a (Reg.one_cell {lower = l} _ h c) = let e : reg_number 0 l ≡ l = omega arith in (rw e h, omega (arith, only_lt c))
  reg_number_lem One a (Reg.two_cells c h _ _) = not_both a c
  reg_number_lem Two a (Reg.one_cell c h _) = not_both c a
  reg_number_lem Two a (Reg.two_cells {upper = u} {lower = l} _ h hu hl) = let t = pair_parts u l (omega arith) in (rw (t.0, t.1) h, omega arith)

  reg_cells_lem : {i u l : ℕ} → Reg b i u l → (c : Cells) × AddressCells b (count_of c)
  reg_cells_lem (Reg.one_cell a h _) = (One, a)
  reg_cells_lem (Reg.two_cells a h _ _) = (Two, a)

  -- .. and the same `reg` is of the same bytes
  pub value_reg : {i j u l : ℕ} → Reg b i u l → Reg b j u l → (v : List ℕ) × HasValue b i reg_key v × HasValue b j reg_key v
  value_reg {u = u} {l = l} r s =
      let c = reg_cells_lem r in
      (value_bytes c.0 (reg_number u l), (reg_number_lem c.0 c.1 r).0, (reg_number_lem c.0 c.1 s).0)

  -- a record has one `reg`
  same_number :
      (c : Cells) → AddressCells b (count_of c) → {i u l n : ℕ} → Reg b i u l → HasValue b i reg_key (value_bytes c n) → n < limit c → reg_number u l ≡ n
  same_number c a {u = u} {l = l} {n = n} r h lt = let t = reg_number_lem c a r in bytes_apart c (reg_number u l) n t.1 lt (value_unique well t.0 h)

  pub reg_unique : {i u l v m : ℕ} → Reg b i u l → Reg b i v m → (u ≡ v) × (l ≡ m)
  reg_unique {i} {u} {l} {v} {m} r s =
      let c = reg_cells_lem r in
      let t = reg_number_lem c.0 c.1 s in
      pair_apart u l (reg_lower r) v m (reg_lower s) (same_number c.0 c.1 r t.0 t.1)

  -- a value that may be a `reg` is one
  number_reg :
      (c : Cells) →
      AddressCells b (count_of c) →
      {i n : ℕ} →
      HasValue b i reg_key (value_bytes c n) →
      n < limit c →
      is_reg b.width n ≡ true →
      (u : ℕ) × (l : ℕ) × Reg b i u l × (n ≡ reg_number u l)
  number_reg One a {n = n} h lt e = (0, n, Reg.one_cell a h (test_only lt e), omega arith)
  number_reg Two a {n = n} h lt e =
      let t = (affine_decides n).0 (sym (mpidr_test b.width n (two_mpidrs a)) ∙ e) in
      (n / 2 ^ 32, n % 2 ^ 32, Reg.two_cells a h (omega (arith, t)) (omega (arith, t)), omega arith)

module _ {b : Board} (sized : WordSized b) (well : WellFormed b) where
  pub cells_say : CellsSay b (address_cells b)
  unfolding address_cells
  cells_say = go (cell_says sized well 0 address_cells_key)
    where
      refuse :
          {w : ℕ} →
          HasValue b 0 address_cells_key (cell_bytes w) →
          w < 2 ^ 32 →
          (w ≡ 1 → ⊥) →
          (w ≡ 2 → b.width ≡ arm64 → ⊥) →
          (n : ℕ) →
          AddressCells b n →
          ⊥
      refuse {w} h lt one two n a =
          let same = cell_bytes_apart w n lt (allowed_lt a.allowed) (value_unique well h a.value) in
          ⊎_elim (λ e. one (same ∙ e)) (λ t. two (same ∙ t.0) t.1) (cells_cases a.allowed)

      pick :
          {w : ℕ} →
          HasValue b 0 address_cells_key (cell_bytes w) →
          w < 2 ^ 32 →
          (t : Bool) →
          eqb w 1 ≡ t →
          (s : Bool) →
          eqb w 2 ≡ s →
          (r : Bool) →
          eqb b.width arm64 ≡ r →
          CellsSay b (cond t (Some One) (cond s (cond r (Some Two) None) None))
      pick {w} h lt true e s f r g = CellsSay.cells {c = One} (record { value = rw (eqb-true w 1 e) at h; allowed = CellsAllowed.one })
      pick {w} h lt false e true f true g =
          CellsSay.cells {c = Two} (record { value = rw (eqb-true w 2 f) at h; allowed = rw (eqb-true b.width arm64 g) CellsAllowed.two })
      pick {w} h lt false e true f false g = CellsSay.none (refuse h lt (eqb-false w 1 e) (λ _. eqb-false b.width arm64 g))
      pick {w} h lt false e false f r g = CellsSay.none (refuse h lt (eqb-false w 1 e) (λ q _. eqb-false w 2 f q))

      go : {v : Option ℕ} → ValueSays b One 0 address_cells_key v → CellsSay b (cells_for b.width v)
      go (ValueSays.number {n = w} h lt) = pick h lt (eqb w 1) refl (eqb w 2) refl (eqb b.width arm64) refl
      go (ValueSays.none n) = CellsSay.none (λ m a. n (cell_bytes m) a.value refl)

-- what a cpu record's `reg` is read as: its number, or the rule that is broken
pub data RegSays (b : Board) (i : ℕ) : CpuReading → Type 0 where
  untyped : {s : ℕ} → (HasValue b i device_type_key cpu_string → ⊥) → RegSays b i (cpu_reading 11 s 0)
  unread : {s : ℕ} → HasValue b i device_type_key cpu_string → ((u l : ℕ) → Reg b i u l → ⊥) → RegSays b i (cpu_reading 12 s 0)
  reg : {s u l m : ℕ} → HasValue b i device_type_key cpu_string → Reg b i u l → m ≡ reg_number u l → RegSays b i (cpu_reading 0 s m)

-- and its `phandle`
pub data PhandleSays (b : Board) (i : ℕ) : CpuReading → Type 0 where
  phandle : {s h : ℕ} → Phandle b i h → PhandleSays b i (cpu_reading 0 s h)
  none : {s : ℕ} → ((h : ℕ) → Phandle b i h → ⊥) → PhandleSays b i (cpu_reading 17 s 0)

pub phandle_unique : {b : Board} (well : WellFormed b) {i g h : ℕ} → Phandle b i g → Phandle b i h → g ≡ h
phandle_unique well {i} {g} {h} p q = cell_bytes_apart g h p.word q.word (value_unique well p.value q.value)

module _ {b : Board} (sized : WordSized b) (well : WellFormed b) (i : ℕ) where
  -- where a property stands
  abbrev at : List ℕ → Option Found
  at key = lookup b.props b.pool i key

  module _ (a : CellsRead b) where
    pub reg_says : RegSays b i (reg_readings b i)
    unfolding reading_from reading_of cell_of
    reg_says = go _ (number_test sized well i device_type_key cpu_cell (omega arith)) (value_says sized well i reg_key (reg_cells b))
      where
        pick :
            {n : ℕ} →
            HasValue b i device_type_key cpu_string →
            HasValue b i reg_key (value_bytes (reg_cells b) n) →
            n < limit (reg_cells b) →
            (t : Bool) →
            is_reg b.width n ≡ t →
            RegSays b i (number_or 12 (at reg_key) no_property (cond t (Some n) None))
        pick kind h lt true e = let t = number_reg well (reg_cells b) a h lt e in RegSays.reg kind t.2 t.3
        pick kind h lt false e =
            RegSays.unread kind
            (λ u l r. true_false (reg_test r) (ap (is_reg b.width) (same_number well (reg_cells b) a r h lt) ∙ e))

        go :
            (s : Bool) →
            Decides s (HasValue b i device_type_key cpu_string) →
            {v : Option ℕ} →
            ValueSays b (reg_cells b) i reg_key v →
            RegSays b i (cond s (number_or 12 (at reg_key) no_property (reg_in b.width v)) (cpu_reading 11 (record_of (at device_type_key)) 0))
        go false kind v = RegSays.untyped ((decides_not kind).0 refl)
        go true kind (ValueSays.number {n = n} h lt) = pick (kind.0 refl) h lt (is_reg b.width n) refl
        go true kind (ValueSays.none f) =
            RegSays.unread (kind.0 refl) (λ u l r. f _ (reg_number_lem well (reg_cells b) a r).0 (bytes_length (reg_cells b) (reg_number u l)))

    -- a sound reading is the `reg`
    pub reg_read : (reg_readings b i).number ≡ 0 → (u : ℕ) × (l : ℕ) × Reg b i u l × ((reg_readings b i).value ≡ reg_number u l)
    reg_read = go reg_says
      where
        go : {q : CpuReading} → RegSays b i q → q.number ≡ 0 → (u : ℕ) × (l : ℕ) × Reg b i u l × (q.value ≡ reg_number u l)
        go (RegSays.untyped _) z = absurd (omega arith)
        go (RegSays.unread _ _) z = absurd (omega arith)
        go (RegSays.reg {u = u} {l = l} _ r e) z = (u, l, r, e)

  pub phandle_says : PhandleSays b i (phandle_readings b i)
  unfolding reading_from reading_of cell_of
  phandle_says = go (cell_says sized well i phandle_key)
    where
      same : {w h : ℕ} → HasValue b i phandle_key (cell_bytes w) → w < 2 ^ 32 → Phandle b i h → w ≡ h
      same {w} {h} v lt p = cell_bytes_apart w h lt p.word (value_unique well v p.value)

      pick :
          {w : ℕ} →
          HasValue b i phandle_key (cell_bytes w) →
          w < 2 ^ 32 →
          (t : Bool) →
          eqb w 0 ≡ t →
          (s : Bool) →
          eqb w 0xFFFFFFFF ≡ s →
          PhandleSays b i (number_or 17 (at phandle_key) (record_of (at phandle_key)) (cond t None (cond s None (Some w))))
      pick {w} v lt true e s f = PhandleSays.none (λ h p. p.not_zero (sym (same v lt p) ∙ eqb-true w 0 e))
      pick {w} v lt false e true f = PhandleSays.none (λ h p. p.not_ones (sym (same v lt p) ∙ eqb-true w 0xFFFFFFFF f))
      pick {w} v lt false e false f =
          PhandleSays.phandle (record { value = v; word = lt; not_zero = eqb-false w 0 e; not_ones = eqb-false w 0xFFFFFFFF f })

      go : {x : Option ℕ} → ValueSays b One i phandle_key x → PhandleSays b i (number_or 17 (at phandle_key) (record_of (at phandle_key)) (phandle_in x))
      go (ValueSays.number {n = w} v lt) = pick v lt (eqb w 0) refl (eqb w 0xFFFFFFFF) refl
      go (ValueSays.none n) = PhandleSays.none (λ h p. n (cell_bytes h) p.value refl)

  pub phandle_read : (phandle_readings b i).number ≡ 0 → Phandle b i (phandle_readings b i).value
  phandle_read = go phandle_says
    where
      go : {q : CpuReading} → PhandleSays b i q → q.number ≡ 0 → Phandle b i q.value
      go (PhandleSays.phandle p) z = p
      go (PhandleSays.none f) z = absurd (omega arith)
