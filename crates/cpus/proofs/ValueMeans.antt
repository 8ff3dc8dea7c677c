-- SPDX-License-Identifier: BSD-2-Clause OR GPL-2.0-or-later
-- What the tests of a property's value say, and its value as a number of cells. Assumes nothing.
use Rattle.std.specs.Prelude.{None, Option, Some}
use mathlib.Core.Path.{◌≡◌, refl, sym, ap, ◌∙◌}
use mathlib.Core.Bool.{Bool, true, false, cond}
use mathlib.Core.Logic.{⊎_elim}
use mathlib.Core.List.{List}
use Prim.Native.Nat.{ℕ, ◌+◌, ◌^◌, ◌≤◌, ◌<◌}
use native.Mathlib.Omega.{arith}
use lib.ListN.{length, length-take, length-drop}
use Rattle.laws.proofs.SearchLaws.{true_false}
use Rattle.laws.proofs.DecideLaws.{Decides, decides_as, eq_decides, le_decides, both_decides}
use Rattle.tables.specs.facts.Board.{Board, WordSized, Inside, range, prop_value, value_offset, value_length}
use Rattle.tables.specs.facts.Property.{Property, HasValue, found_at, cell_bytes}
use Rattle.tables.specs.declared.Found.{Found}
use Rattle.tables.specs.answers.Lookup.{lookup}
use Rattle.wellformed.specs.facts.Rules.{WellFormed}
use Rattle.tables.proofs.LookupLaws.{lookup_cases}
use Rattle.wellformed.proofs.WellFormedLaws.{wf_unique, wf_value_unique}
use Rattle.tables.proofs.CellLaws.{cell_bytes_apart}
use Rattle.cpus.specs.declared.Cells.{Cells}
use Rattle.cpus.specs.declared.Cells.TheVariants.{One}
use Rattle.cpus.specs.answers.Cell.{size_of, value_sized, cells_at, value_in, cell_of, is_number}
use Rattle.cpus.proofs.PairMeans.{limit, value_bytes, cells_lt, cells_bytes}

-- the length of a range that lies inside the pool
pub range_length : (pool : List ℕ) (offset len : ℕ) → Inside pool offset len → length (range pool offset len) ≡ len
range_length pool offset len inside = simp (length-take, length-drop) (omega arith)

-- the test of a value's length
pub sized_test :
    (pool : List ℕ) (len : ℕ) (found : Found) → Decides (value_sized pool len found) ((found.len ≡ len) × (found.offset + len ≤ length pool))
sized_test pool len found = both_decides (eq_decides found.len len) (le_decides (found.offset + len) (length pool))

module _ {b : Board} (well : WellFormed b) {i : ℕ} {key : List ℕ} where
  -- a record has one value of a property: that of its only property record of that name
  value_of :
      {k : ℕ} {v : List ℕ} →
      Property b i key k →
      HasValue b i key v →
      Inside b.pool (value_offset b.props k) (value_length b.props k) × (prop_value b k ≡ v)
  value_of p h = let e = wf_unique well h.property p in (rw e at h.range, rw e at h.bytes)

  pub value_unique : {v w : List ℕ} → HasValue b i key v → HasValue b i key w → v ≡ w
  value_unique = wf_value_unique well

  -- a value of a length is read where it lies
  value_sized_lem :
      {k : ℕ} {v : List ℕ} (len : ℕ) →
      Property b i key k →
      HasValue b i key v →
      length v ≡ len →
      value_sized b.pool len (found_at b.props k) ≡ true
  value_sized_lem {k} {v} len p h e =
      let t = value_of p h in
      let inside = t.0 in
      let same = sym (range_length b.pool (value_offset b.props k) (value_length b.props k) inside) ∙ ap length t.1 ∙ e in
      (sized_test b.pool len (found_at b.props k)).1 (same, omega arith)

-- what a property's value is as a number of so many cells: that number, or not
pub data ValueSays (b : Board) (c : Cells) (i : ℕ) (key : List ℕ) : Option ℕ → Type 0 where
  number : {n : ℕ} → HasValue b i key (value_bytes c n) → n < limit c → ValueSays b c i key (Some n)
  none : ((v : List ℕ) → HasValue b i key v → length v ≡ size_of c → ⊥) → ValueSays b c i key None

module _ {b : Board} (sized : WordSized b) (well : WellFormed b) (i : ℕ) (key : List ℕ) where
  pub value_says : (c : Cells) → ValueSays b c i key (value_in b.pool c (lookup b.props b.pool i key))
  value_says c =
      ⊎_elim
      (λ t. rw t.1 (at t.0 t.2.holds (value_sized b.pool (size_of c) (found_at b.props t.0)) refl))
      (λ t. rw t.0 (ValueSays.none (λ v h _. t.1 h.record_number h.property)))
      (lookup_cases b i key)
    where
      at :
          (k : ℕ) →
          Property b i key k →
          (t : Bool) →
          value_sized b.pool (size_of c) (found_at b.props k) ≡ t →
          ValueSays b c i key (cond t (Some (cells_at b.pool c (value_offset b.props k))) None)
      at k p true e =
          let s = (sized_test b.pool (size_of c) (found_at b.props k)).0 e in
          ValueSays.number {n = cells_at b.pool c (value_offset b.props k)}
          (record {
            record_number = k;
            property = p;
            range = rw s.0 s.1;
            bytes = rw s.0 (cells_bytes b.pool (value_offset b.props k) sized.bytes c s.1);
          })
          (cells_lt b.pool (value_offset b.props k) sized.bytes c)
      at k p false e = ValueSays.none (λ v h len. true_false (value_sized_lem well (size_of c) p h len) e)

  pub cell_says : ValueSays b One i key (cell_of b.props b.pool i key)
  unfolding cell_of
  cell_says = value_says One

  module _ {w : ℕ} where
    pub cell_test : cell_of b.props b.pool i key ≡ Some w → HasValue b i key (cell_bytes w) × (w < 2 ^ 32)
    cell_test = go cell_says
      where
        go : {c : Option ℕ} → ValueSays b One i key c → c ≡ Some w → HasValue b i key (cell_bytes w) × (w < 2 ^ 32)
        go (ValueSays.number {n = x} h lt) e = let q : x ≡ w = cc in (rw q at h, omega arith)
        go (ValueSays.none n) e = let z : ◌≡◌ {A = ℕ} 0 1 = cc in absurd (omega arith)

    pub test_cell : HasValue b i key (cell_bytes w) → w < 2 ^ 32 → cell_of b.props b.pool i key ≡ Some w
    test_cell h lt = go cell_says
      where
        go : {c : Option ℕ} → ValueSays b One i key c → c ≡ Some w
        go (ValueSays.number {n = x} g m) = ap Some (cell_bytes_apart x w m lt (value_unique well g h))
        go (ValueSays.none n) = absurd (n (cell_bytes w) h refl)

  -- the test of a cell is that of its bytes
  pub number_test : (w : ℕ) → w < 2 ^ 32 → Decides (is_number (cell_of b.props b.pool i key) w) (HasValue b i key (cell_bytes w))
  number_test w lt = go cell_says
    where
      go : {c : Option ℕ} → ValueSays b One i key c → Decides (is_number c w) (HasValue b i key (cell_bytes w))
      go (ValueSays.number {n = x} h m) = decides_as (eq_decides x w) (λ e. rw e at h) (λ g. cell_bytes_apart x w m lt (value_unique well h g))
      go (ValueSays.none n) = (λ e. true_false e refl, λ g. absurd (n (cell_bytes w) g refl))
