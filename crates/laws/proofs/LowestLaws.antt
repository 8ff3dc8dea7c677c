-- SPDX-License-Identifier: BSD-2-Clause OR GPL-2.0-or-later
-- There is one lowest number of a kind. Assumes nothing.
use mathlib.Core.Path.{◌≡◌}
use mathlib.Core.Logic.{⊎_elim}
use Prim.Native.Nat.{ℕ}
use Rattle.laws.specs.facts.Lowest.{Lowest}
use Rattle.laws.proofs.FirstLaws.{compared}

pub lowest_unique : {P : ℕ → Type 0} {j k : ℕ} → Lowest P j → Lowest P k → j ≡ k
lowest_unique {j = j} {k = k} a b =
    ⊎_elim (λ lt. absurd (b.none_lower j lt a.holds)) (⊎_elim (λ e. e) (λ lt. absurd (a.none_lower k lt b.holds))) (compared j k)
