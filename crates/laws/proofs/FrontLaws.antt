-- SPDX-License-Identifier: BSD-2-Clause OR GPL-2.0-or-later
-- The part of a lent array that a list was laid into. Assumes nothing.
use mathlib.Core.Path.{◌≡◌, sym}
use mathlib.Core.List.{List}
use Prim.Native.Nat.{ℕ, ◌≤◌}
use native.Mathlib.Omega.{arith}
use lib.ListN.{length, take}
use lib.Seq.{length-take-le}
use Rattle.laws.specs.answers.Listed.{laid_over}
use Rattle.laws.proofs.OverLaws.{over_length, over_front}

module _ (l before : List ℕ) {array : List ℕ} {n : ℕ} (laid : array ≡ laid_over l before) (count : n ≡ length l) (few : length l ≤ length before) where
  pub front_fits : n ≤ length array
  front_fits = rw (laid, over_length l before) (omega arith)

  pub front_size : n ≡ length (take n array)
  front_size = sym (length-take-le n array front_fits)

  pub front_is : take n array ≡ l
  front_is = rw (laid, count) (over_front l before few)
