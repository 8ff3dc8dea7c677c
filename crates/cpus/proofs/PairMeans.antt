-- SPDX-License-Identifier: BSD-2-Clause OR GPL-2.0-or-later
-- Numbers of one cell and of two: their bytes, and the number of a `reg`. Assumes nothing.
use mathlib.Core.Path.{◌≡◌, refl, ap, ap₂, ◌∙◌}
use mathlib.Core.Bool.{true}
use mathlib.Core.List.{List, ◌++◌}
use Prim.Native.Nat.{ℕ, ◌+◌, ◌/◌, ◌%◌, ◌^◌, ◌≤◌, ◌<◌}
use native.Mathlib.Omega.{arith}
use lib.ListN.{length, get_or, take, drop}
use lib.Seq.{take-add, drop-drop}
use Rattle.laws.proofs.DecideLaws.{Decides, eq_decides, both_decides}
use Rattle.affinity.specs.answers.Level.{is_affine}
use Rattle.tables.specs.facts.Board.{range}
use Rattle.tables.specs.facts.Property.{cell_bytes}
use Rattle.tables.specs.facts.Property.{cell_at}
use Rattle.tables.proofs.CellLaws.{cell_bytes_lem, cell_bytes_apart, cell_lt}
use Rattle.cpus.specs.declared.Cells.{Cells}
use Rattle.cpus.specs.declared.Cells.TheVariants.{One, Two}
use Rattle.cpus.specs.facts.Node.{reg_number}
use Rattle.cpus.specs.answers.Cell.{size_of, cells_at}

-- the numbers of one cell, or of two, and their bytes: of two, the upper cell and the lower
abbrev pub limit : Cells → ℕ
limit One = 2 ^ 32
limit Two = 2 ^ 64

abbrev pub value_bytes : Cells → ℕ → List ℕ
value_bytes One n = cell_bytes n
value_bytes Two n = cell_bytes (n / 2 ^ 32) ++ cell_bytes (n % 2 ^ 32)

pub bytes_length : (c : Cells) (n : ℕ) → length (value_bytes c n) ≡ size_of c
bytes_length One n = refl
bytes_length Two n = refl

-- different numbers have different bytes
pub bytes_apart : (c : Cells) (m n : ℕ) → m < limit c → n < limit c → value_bytes c m ≡ value_bytes c n → m ≡ n
bytes_apart One m n hm hn e = cell_bytes_apart m n hm hn e
bytes_apart Two m n hm hn e =
    let upper = cell_bytes_apart (m / 2 ^ 32) (n / 2 ^ 32) (omega arith) (omega arith) (ap (take 4) e) in
    let lower = cell_bytes_apart (m % 2 ^ 32) (n % 2 ^ 32) (omega arith) (omega arith) (ap (drop 4) e) in
    omega arith

-- the cells that stand in the pool
module _ (pool : List ℕ) (at : ℕ) (byte : (i : ℕ) → get_or pool i 0 < 256) where
  pub cells_lt : (c : Cells) → cells_at pool c at < limit c
  cells_lt One = cell_lt pool at byte
  cells_lt Two = omega (arith, cell_lt pool at byte, cell_lt pool (at + 4) byte)

  pub cells_bytes : (c : Cells) → at + size_of c ≤ length pool → range pool at (size_of c) ≡ value_bytes c (cells_at pool c at)
  cells_bytes One inside = cell_bytes_lem pool at inside byte
  cells_bytes Two inside =
      let upper : cell_at pool at ≡ cells_at pool Two at / 2 ^ 32 = omega (arith, cell_lt pool (at + 4) byte) in
      let lower : cell_at pool (at + 4) ≡ cells_at pool Two at % 2 ^ 32 = omega (arith, cell_lt pool (at + 4) byte) in
      take-add 4 4 (drop at pool)
      ∙ ap (λ (s : List ℕ). range pool at 4 ++ take 4 s) (drop-drop 4 at pool)
      ∙ ap₂ (λ (a b : List ℕ). a ++ b)
      (cell_bytes_lem pool at (omega arith) byte ∙ ap cell_bytes upper)
      (cell_bytes_lem pool (at + 4) (omega arith) byte ∙ ap cell_bytes lower)

-- affinity bits alone
pub affine_decides : (m : ℕ) → Decides (is_affine m) ((m / 2 ^ 40 ≡ 0) × (m / 2 ^ 24 % 256 ≡ 0))
unfolding is_affine
affine_decides m = both_decides (eq_decides (m / 2 ^ 40) 0) (eq_decides (m / 2 ^ 24 % 256) 0)

pub parts_affine : (u l : ℕ) → u < 2 ^ 8 → l < 2 ^ 24 → is_affine (reg_number u l) ≡ true
parts_affine u l hu hl = (affine_decides (reg_number u l)).1 (omega arith, omega arith)

-- the cells of a `reg`'s number; different cells make different numbers
module _ (u l : ℕ) (hl : l < 2 ^ 32) where
  pub pair_parts : (reg_number u l / 2 ^ 32 ≡ u) × (reg_number u l % 2 ^ 32 ≡ l)
  pair_parts = (omega arith, omega arith)

  pub pair_apart : (v m : ℕ) → m < 2 ^ 32 → reg_number u l ≡ reg_number v m → (u ≡ v) × (l ≡ m)
  pair_apart v m hm e = (omega arith, omega arith)
