-- SPDX-License-Identifier: BSD-2-Clause OR GPL-2.0-or-later
-- Where each digit of a number under the mask stands in its slot. Assumes nothing.
use mathlib.Core.Path.{◌≡◌, refl, sym, ap, ◌∙◌}
use mathlib.Core.List.{List}
use mathlib.Core.Logic.{◌⊎◌, inl, inr, ⊎_elim}
use Prim.Native.Nat.{ℕ, zero, suc, ◌+◌, ◌-◌, ◌*◌, ◌%◌, ◌^◌, ◌≤◌, ◌<◌, max}
use native.Mathlib.Nat.{lt_of_lt_of_le, mod-eq_of_lt}
use native.Mathlib.Decide.{le_ind}
use native.Mathlib.Omega.{arith}
use lib.Bits.{bit_and}
use lib.Dec.{lit<}
use lib.Pow.{pow_mono}
use Rattle.laws.specs.facts.Digit.{digit}
use Rattle.laws.specs.facts.Sum.{sum_below}
use Rattle.laws.proofs.SearchLaws.{lt_or_le}
use Rattle.laws.proofs.FirstLaws.{compared}
use Rattle.laws.proofs.DigitLaws.{digit_lt, digit_and, digit_or, digit_ext}
use Rattle.laws.proofs.ShiftLaws.{digit_shr, field_in, field_below, field_above, digit_bound}
use Rattle.affinity.specs.facts.Level.{begin_of, level_part}
use Rattle.affinity.specs.answers.Level.{low_of, top_of, width_of}
use Rattle.affinity.specs.answers.Hash.{bits_below, shift_of, shifts_of, hash_of_mask, below64, slot_guarded}
use Rattle.affinity.specs.facts.Slot.{level_slot, slot_of}
use Rattle.affinity.proofs.LevelLaws.{part_lt, part_digit, low_width, low_digit, top_digit, in_field}
use Rattle.affinity.proofs.HashLaws.{shift_exact, bits_le, shift_lt}

module _ (m a l : ℕ) (l<4 : l < 4) where
  abbrev part : ℕ
  part = level_part m l

  -- a level's digits under the mask, where they stand
  abbrev kept : ℕ
  kept = bit_and (bit_and a m) (255 * 2 ^ begin_of l)

  abbrev shift : ℕ
  shift = begin_of l + low_of part - bits_below m l

  -- the level's digits stand in the slot from the widths of the lower levels on
  level_in : (j : ℕ) → j < width_of part → digit (level_slot m a l (shift_of m l)) (bits_below m l + j) ≡ digit (bit_and a m) (begin_of l + low_of part + j)
  unfolding level_slot shift_of
  level_in j h =
      let lw = low_width part (part_lt m l) in
      let e : shift + (bits_below m l + j) ≡ begin_of l + low_of part + j = omega (arith, shift_exact m l l<4) in
      digit_shr kept shift (bits_below m l + j)
      ∙ ap (digit kept) e
      ∙ field_in (bit_and a m) (begin_of l) (begin_of l + low_of part + j) (omega arith) (omega arith)

  -- zeros of the part are zeros under the mask
  kept_none : (q : ℕ) → q < 8 → (q < low_of part) ⊎ (top_of part ≤ q) → digit (bit_and a m) (begin_of l + q) ≡ 0
  kept_none q h s =
      let z : digit part q ≡ 0 = ⊎_elim (low_digit part q (part_lt m l)) (top_digit part q (part_lt m l)) s in
      rw (digit_and a m (begin_of l + q)) (omega (arith, z, part_digit m l q h))

  kept_out : (p : ℕ) → (p < begin_of l + low_of part) ⊎ (begin_of l + low_of part + width_of part ≤ p) → digit kept p ≡ 0
  kept_out p s =
      ⊎_elim
      (field_below (bit_and a m) (begin_of l) p)
      (λ ge. ⊎_elim (inside ge) (field_above (bit_and a m) (begin_of l) p) (lt_or_le p (8 + begin_of l)))
      (lt_or_le p (begin_of l))
    where
      inside : begin_of l ≤ p → p < 8 + begin_of l → digit kept p ≡ 0
      inside ge lt =
          let q : p ≡ begin_of l + (p - begin_of l) = omega arith in
          let lw = low_width part (part_lt m l) in
          field_in (bit_and a m) (begin_of l) p ge (omega arith)
          ∙ ap (digit (bit_and a m)) q
          ∙ kept_none (p - begin_of l) (omega arith) (⊎_elim (λ h. inl (omega arith)) (λ h. inr (omega arith)) s)

  -- and nowhere else
  level_out : (k : ℕ) → (k < bits_below m l) ⊎ (bits_below m (suc l) ≤ k) → digit (level_slot m a l (shift_of m l)) k ≡ 0
  unfolding level_slot shift_of sum_below
  level_out k out =
      digit_shr kept shift k
      ∙ kept_out (shift + k) (⊎_elim (λ h. inl (omega (arith, shift_exact m l l<4))) (λ h. inr (omega (arith, shift_exact m l l<4))) out)

pub bits_mono : (m i j : ℕ) → i ≤ j → bits_below m i ≤ bits_below m j
unfolding sum_below
bits_mono m i j le = le_ind (λ (k : ℕ). bits_below m i ≤ bits_below m k) (omega arith) (λ k _ h. omega arith) j le

-- the greatest of four, of which all are 0 but one
max_one :
    (f : ℕ → ℕ) (l : ℕ) → l < 4 → ((i : ℕ) → i < 4 → (i ≡ l → ⊥) → f i ≡ 0) → max (max (max (f 0) (f 1)) (f 2)) (f 3) ≡ f l
max_one f zero h z = omega (arith, z 1 (lit< tt) (λ e. omega arith), z 2 (lit< tt) (λ e. omega arith), z 3 (lit< tt) (λ e. omega arith))
max_one f (suc zero) h z = omega (arith, z 0 (lit< tt) (λ e. omega arith), z 2 (lit< tt) (λ e. omega arith), z 3 (lit< tt) (λ e. omega arith))
max_one f (suc (suc zero)) h z = omega (arith, z 0 (lit< tt) (λ e. omega arith), z 1 (lit< tt) (λ e. omega arith), z 3 (lit< tt) (λ e. omega arith))
max_one f (suc (suc (suc zero))) h z =
    omega (arith, z 0 (lit< tt) (λ e. omega arith), z 1 (lit< tt) (λ e. omega arith), z 2 (lit< tt) (λ e. omega arith))
max_one f (suc (suc (suc (suc l)))) h z = absurd (omega arith)

shifts_small : (m : ℕ) → below64 (shifts_of m) ≡ shifts_of m
unfolding shifts_of
shifts_small m = rw (small 0, small 1, small 2, small 3)
  where
    small : (l : ℕ) → shift_of m l % 64 ≡ shift_of m l
    small l = mod-eq_of_lt (shift_lt m l)

module _ (m a : ℕ) where
  abbrev level_digit : ℕ → ℕ → ℕ
  level_digit k l = digit (level_slot m a l (shift_of m l)) k

  -- a slot's digit is the greatest of the levels' digits
  slot_max : (k : ℕ) → digit (slot_of (hash_of_mask m) a) k ≡ max (max (max (level_digit k 0) (level_digit k 1)) (level_digit k 2)) (level_digit k 3)
  unfolding slot_of hash_of_mask shifts_of
  slot_max k = simp digit_or

  slot_digit :
      (l : ℕ) →
      l < 4 →
      (j : ℕ) →
      j < width_of (level_part m l) →
      digit (slot_of (hash_of_mask m) a) (bits_below m l + j) ≡ digit (bit_and a m) (begin_of l + low_of (level_part m l) + j)
  unfolding sum_below
  slot_digit l h j lt = slot_max (bits_below m l + j) ∙ max_one (level_digit (bits_below m l + j)) l h other ∙ level_in m a l h j lt
    where
      other : (i : ℕ) → i < 4 → (i ≡ l → ⊥) → level_digit (bits_below m l + j) i ≡ 0
      other i g ne =
          level_out m a i g (bits_below m l + j) (⊎_elim
          (λ q. inr (omega (arith, bits_mono m (suc i) l q)))
          (⊎_elim (λ e. absurd (ne e)) (λ q. inl (omega (arith, bits_mono m (suc l) i q))))
          (compared i l))

  -- a slot has no more digits than the widths add up to
  pub slot_lt : slot_of (hash_of_mask m) a < 2 ^ bits_below m 4
  slot_lt =
      digit_bound (slot_of (hash_of_mask m) a) (bits_below m 4)
      (λ j. slot_max (bits_below m 4 + j) ∙ max_one (level_digit (bits_below m 4 + j)) 0 (lit< tt) (λ i h _. above j i h) ∙ above j 0 (lit< tt))
    where
      above : (j i : ℕ) → i < 4 → level_digit (bits_below m 4 + j) i ≡ 0
      above j i h = level_out m a i h (bits_below m 4 + j) (inr (omega (arith, bits_mono m (suc i) 4 h)))

  -- the remainders change nothing under the hash of a mask
  pub slot_guarded_lem : slot_guarded (hash_of_mask m) a ≡ slot_of (hash_of_mask m) a
  unfolding slot_guarded hash_of_mask
  slot_guarded_lem =
      ap (λ (s : List ℕ). slot_of (record { mask = m; shifts = s; bits = bits_below m 4 }) a % 2 ^ 32) (shifts_small m)
      ∙ mod-eq_of_lt (lt_of_lt_of_le slot_lt (pow_mono (bits_le m)))

-- Two numbers that agree wherever the mask has a 0, under a mask with ones in the levels alone, are equal when their slots are.
pub slots_apart :
    (m a b : ℕ) →
    ((k : ℕ) → digit m k ≡ 1 → (l : ℕ) × (l < 4) × (begin_of l ≤ k) × (k < begin_of l + 8)) →
    ((k : ℕ) → digit m k ≡ 0 → digit a k ≡ digit b k) →
    slot_of (hash_of_mask m) a ≡ slot_of (hash_of_mask m) b →
    a ≡ b
slots_apart m a b fields same e = digit_ext a b (λ k. go k (digit m k) refl)
  where
    one : (k : ℕ) → digit m k ≡ 1 → digit (bit_and a m) k ≡ digit (bit_and b m) k
    one k h =
        let f = fields k h in
        let l = f.0 in
        let q : ℕ = k - begin_of l in
        let part = level_part m l in
        let there : digit part q ≡ 1 = part_digit m l q (omega (arith, f.2, f.3)) ∙ ap (digit m) (omega (arith, f.2)) ∙ h in
        let inside = in_field part q (part_lt m l) there in
        let lw = low_width part (part_lt m l) in
        let j : ℕ = q - low_of part in
        let at : begin_of l + low_of part + j ≡ k = omega (arith, f.2, inside.0) in
        let lt : j < width_of part = omega (arith, inside.0, inside.1, lw.0) in
        ap (digit (bit_and a m)) (sym at)
        ∙ sym (slot_digit m a l f.1 j lt)
        ∙ ap (λ (s : ℕ). digit s (bits_below m l + j)) e
        ∙ slot_digit m b l f.1 j lt
        ∙ ap (digit (bit_and b m)) at

    go : (k d : ℕ) → digit m k ≡ d → digit a k ≡ digit b k
    go k zero h = same k h
    go k (suc zero) h = let w = one k h in omega (arith, rw (digit_and a m k, digit_and b m k) at w, digit_lt a k, digit_lt b k)
    go k (suc (suc d)) h = absurd (omega (arith, digit_lt m k))
