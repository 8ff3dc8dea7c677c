-- SPDX-License-Identifier: BSD-2-Clause OR GPL-2.0-or-later
-- The lowest number of a kind.
use Rattle.std.specs.Prelude.{ℕ, ◌<◌}

pub record Lowest (P : ℕ → Type 0) (k : ℕ) : Type 0 where
  pub holds : P k
  pub none_lower : (j : ℕ) → j < k → P j → ⊥
