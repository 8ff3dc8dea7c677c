-- SPDX-License-Identifier: BSD-2-Clause OR GPL-2.0-or-later
-- Affinity levels of an MPIDR; low and width of a level's part (01, "The slot").
use Rattle.std.specs.Prelude.{List, [], ◌∷◌, ◌⊎◌, ◌≡◌, ℕ, ◌/◌, ◌%◌, ◌^◌, ◌≤◌, ◌<◌, suc, ◌+◌, get_or}
use Rattle.laws.specs.facts.Digit.{digit}

-- the bit at which each level begins; each has eight bits
abbrev pub level_begins : List ℕ
level_begins = 0 ∷ 8 ∷ 16 ∷ 32 ∷ []

abbrev pub begin_of : ℕ → ℕ
begin_of level = get_or level_begins level 0

-- a level's eight bits, read as a number 0 to 255
unfoldable pub level_part : ℕ → ℕ → ℕ
level_part n level = n / 2 ^ begin_of level % 256

-- the affinity bits: 39..32 and 23..0
abbrev pub AffinityBit : ℕ → Type 0
AffinityBit k = (k < 24) ⊎ ((32 ≤ k) × (k < 40))

-- an MPIDR with no bit outside the affinity bits
abbrev pub Affine : ℕ → Type 0
Affine m = (k : ℕ) → digit m k ≡ 1 → AffinityBit k

-- low: the trailing zero bits of a level's part, 0 where the part is zero
pub data Low : ℕ → ℕ → Type 0 where
  zero_part : Low 0 0
  lowest_one : {part low : ℕ} → digit part low ≡ 1 → ((k : ℕ) → k < low → digit part k ≡ 0) → Low part low

-- the position of the highest one plus 1, 0 where the part is zero
pub data Top : ℕ → ℕ → Type 0 where
  zero_part : Top 0 0
  highest_one : {part top : ℕ} → digit part top ≡ 1 → ((k : ℕ) → top < k → digit part k ≡ 0) → Top part (suc top)

-- width: the position of the highest one plus 1, minus low
pub record Width (part width : ℕ) : Type 0 where
  pub low : ℕ
  pub is_low : Low part low
  pub is_top : Top part (low + width)
