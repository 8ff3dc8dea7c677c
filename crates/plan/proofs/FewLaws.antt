-- SPDX-License-Identifier: BSD-2-Clause OR GPL-2.0-or-later
-- The ones of a mask are no more than the bits of its hash. Assumes nothing.
use mathlib.Core.Path.{◌≡◌, ap, ◌∙◌}
use mathlib.Core.Logic.{⊎_elim}
use mathlib.Core.List.{List}
use Prim.Native.Nat.{ℕ, suc, ◌+◌, ◌-◌, ◌≤◌, ◌<◌}
use native.Mathlib.Omega.{arith}
use lib.ListN.{length, get_or}
use Rattle.laws.specs.facts.Digit.{digit}
use Rattle.laws.specs.facts.Sum.{sum_below}
use Rattle.laws.proofs.FirstLaws.{compared}
use Rattle.laws.proofs.ListingLaws.{pigeonhole}
use Rattle.affinity.specs.facts.Level.{begin_of, level_part, Affine}
use Rattle.affinity.specs.answers.Level.{low_of, width_of}
use Rattle.affinity.specs.answers.Hash.{bits_below}
use Rattle.affinity.proofs.AffineLaws.{bit_level}
use Rattle.affinity.proofs.LevelLaws.{part_lt, part_digit, low_width, in_field}
use Rattle.affinity.proofs.SlotLaws.{bits_mono}

module _ (m : ℕ) where
  -- where a one of the mask goes in a slot: its level, and its place in the level's width
  record Spot (k : ℕ) : Type 0 where
    level : ℕ
    few : level < 4
    place : ℕ
    inside : place < width_of (level_part m level)
    here : begin_of level + low_of (level_part m level) + place ≡ k

  spot : Affine m → (k : ℕ) → digit m k ≡ 1 → Spot k
  spot h k one =
      let f = bit_level k (h k one) in
      let l = f.0 in
      let q : ℕ = k - begin_of l in
      let part = level_part m l in
      let there : digit part q ≡ 1 = part_digit m l q (omega (arith, f.2, f.3)) ∙ ap (digit m) (omega (arith, f.2)) ∙ one in
      let field = in_field part q (part_lt m l) there in
      let lw = low_width part (part_lt m l) in
      record {
        level = l;
        few = f.1;
        place = q - low_of part;
        inside = omega (arith, field.0, field.1, lw.0);
        here = omega (arith, f.2, field.0);
      }

  abbrev at : {k : ℕ} → Spot k → ℕ
  at s = bits_below m s.level + s.place

  spot_lt : (k : ℕ) (s : Spot k) → at s < bits_below m 4
  unfolding sum_below
  spot_lt k s = omega (arith, s.inside, bits_mono m (suc s.level) 4 s.few)

  spot_apart : (k j : ℕ) (s : Spot k) (t : Spot j) → at s ≡ at t → k ≡ j
  unfolding sum_below
  spot_apart k j s t e =
      ⊎_elim
      (λ lt. absurd (omega (arith, e, s.inside, bits_mono m (suc s.level) t.level lt)))
      (⊎_elim same (λ lt. absurd (omega (arith, e, t.inside, bits_mono m (suc t.level) s.level lt))))
      (compared s.level t.level)
    where
      same : s.level ≡ t.level → k ≡ j
      same q =
          let b : bits_below m s.level ≡ bits_below m t.level = ap (bits_below m) q in
          let f : begin_of s.level + low_of (level_part m s.level) ≡ begin_of t.level + low_of (level_part m t.level) =
          ap (λ (l : ℕ). begin_of l + low_of (level_part m l)) q in
          omega (arith, e, s.here, t.here)

  pub ones_few :
      Affine m →
      (l : List ℕ) →
      ((i j : ℕ) → i < j → j < length l → get_or l i 0 < get_or l j 0) →
      ((i : ℕ) → i < length l → digit m (get_or l i 0) ≡ 1) →
      length l ≤ bits_below m 4
  ones_few h l rising ones =
      pigeonhole (bits_below m 4) (length l) (λ i p. at (place i p)) (λ i p. spot_lt (get_or l i 0) (place i p))
      (λ i j p q lt e. let r = rising i j lt q in omega (arith, spot_apart (get_or l i 0) (get_or l j 0) (place i p) (place j q) e))
    where
      place : (i : ℕ) → i < length l → Spot (get_or l i 0)
      place i p = spot h (get_or l i 0) (ones i p)
