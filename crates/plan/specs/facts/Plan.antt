-- SPDX-License-Identifier: BSD-2-Clause OR GPL-2.0-or-later
-- A plan: bit positions at which the MPIDRs of a list differ, and the slot under it (02, W8).
use Rattle.std.specs.Prelude.{◌≡◌, List, ◌++◌, ℕ, suc, ◌<◌, ◌^◌, length, get_or, take, drop}
use Rattle.laws.specs.facts.Digit.{digit}
use Rattle.laws.specs.facts.Listing.{Member}
use Rattle.affinity.specs.facts.Level.{AffinityBit}

-- positions strictly rising, from bits 23..0 and 39..32
pub record Positions (positions : List ℕ) : Type 0 where
  pub rising : (i j : ℕ) → i < j → j < length positions → get_or positions i 0 < get_or positions j 0
  pub affine : (i : ℕ) → i < length positions → AffinityBit (get_or positions i 0)

-- two numbers differ at a bit of a kind
pub record DifferAt (P : ℕ → Type 0) (a b : ℕ) : Type 0 where
  pub bit : ℕ
  pub kind : P bit
  pub differs : digit a bit ≡ digit b bit → ⊥

-- any two different MPIDRs of a list differ at a bit of a kind
abbrev pub Separates : List ℕ → (ℕ → Type 0) → Type 0
Separates list P = (x y : ℕ) → Member list x → Member list y → (x ≡ y → ⊥) → DifferAt P x y

-- any two different MPIDRs of a list differ at one of the positions
abbrev pub SeparatedAt : List ℕ → List ℕ → Type 0
SeparatedAt list positions = Separates list (Member positions)

-- positions without the one at an index
abbrev pub drop_at : ℕ → List ℕ → List ℕ
drop_at i positions = take i positions ++ drop (suc i) positions

-- the slot under a plan: the bits at the positions, the lowest position in bit 0
pub record PlanSlot (positions : List ℕ) (mpidr slot : ℕ) : Type 0 where
  pub bits : (i : ℕ) → i < length positions → digit slot i ≡ digit mpidr (get_or positions i 0)
  pub bounded : slot < 2 ^ length positions
