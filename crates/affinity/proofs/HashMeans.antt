-- SPDX-License-Identifier: BSD-2-Clause OR GPL-2.0-or-later
-- The computed hash of a list with no bit outside is its hash, and a list has no other. Assumes nothing.
use mathlib.Core.Path.{◌≡◌, refl, sym, ap, ap₂, ◌∙◌}
use mathlib.Core.Logic.{⊎_elim}
use mathlib.Core.List.{List, [], ◌∷◌}
use Prim.Native.Nat.{ℕ, ◌+◌, ◌≤◌, ◌<◌}
use native.Mathlib.Omega.{arith}
use lib.Count.{count_leading_zeros, count_trailing_zeros}
use lib.ListN.{length, get_or}
use lib.Seq.{ext_get_or}
use Rattle.laws.specs.facts.Digit.{digit}
use Rattle.laws.specs.facts.Listing.{Member}
use Rattle.laws.specs.facts.Sum.{sum_below}
use Rattle.laws.proofs.SearchLaws.{lt_or_le}
use Rattle.laws.proofs.SumLaws.{sum_same}
use Rattle.laws.proofs.DigitLaws.{digit_lt}
use Rattle.laws.proofs.FromDigitLaws.{digit_not_one, digit_ext_below}
use Rattle.affinity.specs.declared.Hash.{Hash}
use Rattle.affinity.specs.facts.Level.{begin_of, level_part}
use Rattle.affinity.specs.answers.Level.{low_of, top_of, width_of}
use Rattle.affinity.specs.answers.Mask.{mask_of}
use Rattle.affinity.specs.answers.Hash.{bits_below, shift_of, shifts_of, hash_of_mask, hash_of, slot_in}
use Rattle.affinity.specs.steps.List.{AllAffine}
use Rattle.affinity.specs.facts.Mask.{IsMask}
use Rattle.affinity.specs.facts.Hash.{IsHash}
use Rattle.affinity.proofs.LevelLaws.{part_lt}
use Rattle.affinity.proofs.LevelMeans.{low_unique, width_unique, low_holds, width_holds}
use Rattle.affinity.proofs.AffineLaws.{bit_level}
use Rattle.affinity.proofs.MaskLaws.{mask_holds, mask_one, mask_same}
use Rattle.affinity.proofs.HashLaws.{shift_exact, shift_at}
use Rattle.affinity.proofs.SlotLaws.{slot_lt, slots_apart}

module _ (list : List ℕ) (affine : AllAffine list) where
  abbrev m : ℕ
  m = mask_of list

  slots_distinct : (x y : ℕ) → Member list x → Member list y → slot_in list x ≡ slot_in list y → x ≡ y
  slots_distinct x y p q e = slots_apart m x y (λ k one. let t = mask_one list k one in bit_level k (affine t.0 t.1 k t.2)) same e
    where
      none : (k z : ℕ) → 64 ≤ k → Member list z → digit z k ≡ 0
      none k z le r =
          digit_not_one z k (λ one.
          ⊎_elim (λ a. omega arith) (λ a. omega (arith, a.1)) (affine r.index r.inside k (rw r.here one)))

      same : (k : ℕ) → digit m k ≡ 0 → digit x k ≡ digit y k
      same k z =
          ⊎_elim
          (λ lt. rw (p.here, q.here) at (mask_same list k p.index q.index lt z p.inside q.inside))
          (λ le. none k x le p ∙ sym (none k y le q))
          (lt_or_le k 64)

  shift_adds : (level : ℕ) → level < 4 → get_or (shifts_of m) level 0 + bits_below m level ≡ begin_of level + low_of (level_part m level)
  unfolding shift_of
  shift_adds level lt = omega (arith, shift_at m level lt, shift_exact m level lt)

  pub hash_is : IsHash list (hash_of list)
  unfolding hash_of_mask shifts_of
  hash_is =
      record {
        mask = mask_holds list;
        low = λ level. low_of (level_part m level);
        width = λ level. width_of (level_part m level);
        lows = λ level _. low_holds (level_part m level) (part_lt m level);
        widths = λ level _. width_holds (level_part m level) (part_lt m level);
        four = refl;
        shifts = shift_adds;
        bits = refl;
        distinct = slots_distinct;
        bounded = λ x _. slot_lt m x;
      }

-- digits with the same ones
digit_same : (m n k : ℕ) → (digit m k ≡ 1 → digit n k ≡ 1) → (digit n k ≡ 1 → digit m k ≡ 1) → digit m k ≡ digit n k
digit_same m n k to from =
    ⊎_elim
    (λ lt. let z : digit m k ≡ 0 = omega arith in z ∙ sym (digit_not_one n k (λ e. omega (arith, from e))))
    (λ le. let z : digit m k ≡ 1 = omega (arith, digit_lt m k) in z ∙ sym (to z))
    (lt_or_le (digit m k) 1)

mask_unique : {list : List ℕ} {m n : ℕ} → IsMask list m → IsMask list n → m ≡ n
mask_unique {m = m} {n = n} h g =
    digit_ext_below m n 64 h.size g.size
    (λ k lt. digit_same m n k (λ e. (g.ones k lt).1 ((h.ones k lt).0 e)) (λ e. (h.ones k lt).1 ((g.ones k lt).0 e)))

abbrev hash : ℕ → List ℕ → ℕ → Hash
hash mask shifts bits = record { mask = mask; shifts = shifts; bits = bits }

-- the hash of the empty mask
pub empty_hash : hash_of_mask 0 ≡ record { mask = 0; shifts = 0 ∷ 8 ∷ 16 ∷ 32 ∷ []; bits = 0 }
unfolding hash_of_mask shifts_of shift_of sum_below level_part low_of width_of top_of count_trailing_zeros count_leading_zeros
empty_hash = refl

pub hash_unique : {list : List ℕ} {h g : Hash} → IsHash list h → IsHash list g → h ≡ g
hash_unique {list} {h} {g} a b =
    ap₂ (λ (m : ℕ) (s : List ℕ). hash m s h.bits) mask shifts ∙ ap (hash g.mask g.shifts) (a.bits ∙ sums 4 (omega arith) ∙ sym b.bits)
  where
    mask : h.mask ≡ g.mask
    mask = mask_unique a.mask b.mask

    lows : (l : ℕ) → l < 4 → a.low l ≡ b.low l
    lows l lt = low_unique (rw mask at (a.lows l lt)) (b.lows l lt)

    sums : (l : ℕ) → l ≤ 4 → sum_below a.width l ≡ sum_below b.width l
    sums l le = sum_same a.width b.width l (λ k lt. width_unique (rw mask at (a.widths k (omega arith))) (b.widths k (omega arith)))

    shifts : h.shifts ≡ g.shifts
    shifts = ext_get_or 0 h.shifts g.shifts (a.four ∙ sym b.four) same
      where
        same : (l : ℕ) → l < length h.shifts → get_or h.shifts l 0 ≡ get_or g.shifts l 0
        same l in_l =
            let lt : l < 4 = rw a.four at in_l in
            omega (arith, a.shifts l lt, b.shifts l lt, lows l lt, sums l (omega arith))
