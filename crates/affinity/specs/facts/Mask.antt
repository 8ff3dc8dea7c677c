-- SPDX-License-Identifier: BSD-2-Clause OR GPL-2.0-or-later
-- The mask of a list of MPIDRs: each bit in which some two of them differ (01, "The slot").
use Rattle.std.specs.Prelude.{◌≡◌, List, ◌↔◌, ℕ, ◌<◌, ◌^◌, length, get_or}
use Rattle.laws.specs.facts.Digit.{digit}

-- some two of the list differ in bit k
pub record Differ (list : List ℕ) (k : ℕ) : Type 0 where
  pub one : ℕ
  pub other : ℕ
  pub one_in : one < length list
  pub other_in : other < length list
  pub differs : digit (get_or list one 0) k ≡ digit (get_or list other 0) k → ⊥

-- the mask: each bit in which some two listed MPIDRs differ
pub record IsMask (list : List ℕ) (mask : ℕ) : Type 0 where
  pub size : mask < 2 ^ 64
  pub ones : (k : ℕ) → k < 64 → (digit mask k ≡ 1) ↔ Differ list k
