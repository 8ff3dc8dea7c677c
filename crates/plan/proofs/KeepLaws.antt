-- SPDX-License-Identifier: BSD-2-Clause OR GPL-2.0-or-later
-- The number with a one at each position of a plan, and the positions of a number's ones. Assumes nothing.
use mathlib.Core.Path.{◌≡◌, sym}
use mathlib.Core.Bool.{Bool, true}
use mathlib.Core.Logic.{⊎_elim}
use mathlib.Core.List.{List}
use Prim.Native.Nat.{ℕ, zero, suc, ◌^◌, ◌≤◌, ◌<◌}
use native.Mathlib.Omega.{arith}
use lib.Bits.{bit_or}
use lib.Dec.{eqb}
use lib.ListN.{length, get_or}
use borrow.Author.Tests.{eq-eqb, eqb-true}
use Rattle.laws.specs.facts.Digit.{digit}
use Rattle.laws.specs.facts.Listing.{Member, Listing}
use Rattle.laws.specs.answers.Search.{count_below}
use Rattle.laws.proofs.SearchLaws.{below_suc}
use Rattle.laws.proofs.DecideLaws.{decided, eq_decides}
use Rattle.laws.proofs.DigitLaws.{digit_lt, digit_or}
use Rattle.laws.proofs.FromDigitLaws.{no_digit}
use Rattle.laws.proofs.ListingLaws.{listed}
use Rattle.laws.proofs.IndexLaws.{index_of_lem}
use Rattle.affinity.specs.facts.Level.{Affine}
use Rattle.plan.specs.facts.Plan.{Positions, Separates, SeparatedAt}
use Rattle.plan.specs.answers.Check.{keep_below, keep_of}
use Rattle.plan.specs.answers.Planner.{ones_of}
use Rattle.plan.proofs.DigitLessLaws.{pow_digit, pow_other}
use Rattle.plan.proofs.SeparateLaws.{Ones, separates_more}
use Rattle.plan.proofs.PositionLaws.{bit_lt, positions_few}

module _ (positions : List ℕ) where
  -- a one of it stands at a position, and each position has a one
  keep_place : (n k : ℕ) → digit (keep_below positions n) k ≡ 1 → (i : ℕ) × (i < n) × (get_or positions i 0 ≡ k)
  unfolding keep_below
  keep_place zero k one = absurd (omega (arith, no_digit k))
  keep_place (suc n) k one =
      ⊎_elim
      (λ e. (n, omega arith, e))
      (λ ne.
      let low : digit (keep_below positions n) k ≡ 1 =
      omega (arith, one, digit_or (keep_below positions n) (2 ^ get_or positions n 0) k, pow_other (get_or positions n 0) k (λ e. ne (sym e))) in
      let t = keep_place n k low in
      (t.0, omega (arith, t.1), t.2))
      (decided (eq_decides (get_or positions n 0) k))

  place_keep : (n i : ℕ) → i < n → digit (keep_below positions n) (get_or positions i 0) ≡ 1
  unfolding keep_below
  place_keep zero i lt = absurd (omega arith)
  place_keep (suc n) i lt =
      below_suc {P = λ j. digit (bit_or (keep_below positions n) (2 ^ last)) (get_or positions j 0) ≡ 1} n
      (λ j q.
      let p = get_or positions j 0 in
      omega (arith, place_keep n j q, digit_or (keep_below positions n) (2 ^ last) p, digit_lt (2 ^ last) p))
      (omega (arith, pow_digit last, digit_or (keep_below positions n) (2 ^ last) last, digit_lt (keep_below positions n) last))
      i lt
    where
      last : ℕ
      last = get_or positions n 0

  pub keep_member : (k : ℕ) → Ones (keep_of positions) k → Member positions k
  keep_member k one = let t = keep_place (length positions) k one in record { index = t.0; inside = t.1; here = t.2 }

  pub member_keep : (k : ℕ) → Member positions k → Ones (keep_of positions) k
  member_keep k m = rw m.here at (place_keep (length positions) m.index m.inside)

  -- the positions separate a list where that number does
  pub keep_separates : (list : List ℕ) → Separates list (Ones (keep_of positions)) → SeparatedAt list positions
  keep_separates list = separates_more list (Ones (keep_of positions)) (Member positions) keep_member

  pub separates_keep : (list : List ℕ) → SeparatedAt list positions → Separates list (Ones (keep_of positions))
  separates_keep list = separates_more list (Member positions) (Ones (keep_of positions)) member_keep

-- the ones of a number that has none outside the affinity bits
module _ (keep : ℕ) (affine : Affine keep) where
  abbrev is_one : ℕ → Bool
  is_one k = eqb (digit keep k) 1

  pub ones_listing : Listing (Ones keep) (ones_of keep)
  unfolding ones_of
  ones_listing =
      listed is_one 40 (λ k one. (bit_lt k (affine k one), eq-eqb (digit keep k) 1 one)) (λ k _ e. eqb-true (digit keep k) 1 e)

  pub ones_sound : Positions (ones_of keep)
  ones_sound = let h = ones_listing in record { rising = h.rising; affine = λ i lt. affine (get_or (ones_of keep) i 0) (h.only i lt) }

  pub ones_room : length (ones_of keep) ≤ 32
  ones_room = positions_few (ones_of keep) ones_sound

  -- there is room for one more
  pub one_room : (k : ℕ) → k < 40 → is_one k ≡ true → count_below is_one k < 32
  unfolding ones_of
  one_room k lt e = let t = index_of_lem is_one k 40 e lt in omega (arith, t.0, ones_room)
