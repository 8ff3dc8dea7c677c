-- SPDX-License-Identifier: BSD-2-Clause OR GPL-2.0-or-later
-- Words hold the places that laws bound. Assumes nothing.
use Rattle.std.specs.Prelude.{Result, Ok, Err, IfErr}
use mathlib.Core.Path.{◌≡◌, ap}
use Prim.Native.Nat.{ℕ, ◌≤◌, ◌<◌, ◌^◌}
use native.Mathlib.Omega.{arith}
use Rattle.laws.specs.declared.rules.Broken.{Broken}
use Rattle.laws.specs.facts.Told.{Fault}
use Rattle.laws.specs.answers.Told.{broken_in}

pub place_in_word : {p n : ℕ} → p ≡ n → n ≤ 256 → p < 2 ^ 32
place_in_word e le = omega arith

pub check_in_word : {A : Type 0} (r : Result A Broken) (f : Fault) → broken_in r ≡ f → f.place < 2 ^ 32 → IfErr r (λ b. b.place < 2 ^ 32)
check_in_word (Ok x) f e lt = tt
check_in_word (Err b) f e lt = let p : b.place ≡ f.place = ap (λ (g : Fault). g.place) e in omega arith
