-- SPDX-License-Identifier: BSD-2-Clause OR GPL-2.0-or-later
-- A list cut to a number of elements: the part of it that the smaller of its length and that number lends. Assumes nothing.
use mathlib.Core.Path.{◌≡◌, sym, ap, ◌∙◌}
use mathlib.Core.Logic.{⊎_elim}
use mathlib.Core.List.{List}
use Prim.Native.Nat.{ℕ, ◌≤◌, ◌<◌, min}
use native.Mathlib.Omega.{arith}
use lib.ListN.{length, take}
use lib.Seq.{take_all, take-length, length-take-le}
use Rattle.laws.proofs.SearchLaws.{lt_or_le}

module _ (l : List ℕ) (most : ℕ) {n : ℕ} (e : n ≡ min (length l) most) where
  pub cut_size : n ≡ length (take n l)
  cut_size = sym (length-take-le n l (omega (arith, e)))

  pub cut_few : length (take n l) ≤ most
  cut_few = omega (arith, e, cut_size)

  pub cut_same : take n l ≡ take most l
  cut_same =
      ⊎_elim
      (λ lt. ap (λ (k : ℕ). take k l) (full lt))
      (λ le. ap (λ (k : ℕ). take k l) (whole le) ∙ take-length l ∙ sym (take_all most l le))
      (lt_or_le most (length l))
    where
      whole : length l ≤ most → n ≡ length l
      whole le = omega (arith, e)

      full : most < length l → n ≡ most
      full lt = omega (arith, e)
