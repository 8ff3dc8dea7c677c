-- SPDX-License-Identifier: BSD-2-Clause OR GPL-2.0-or-later
-- What our planner keeps, bit by bit, and that it is what the facts demand. Assumes nothing.
use mathlib.Core.Path.{◌≡◌, refl, sym, ap, ◌∙◌}
use mathlib.Core.Bool.{Bool, true, false, cond}
use mathlib.Core.Logic.{inl, inr, ⊎_elim}
use mathlib.Core.List.{List}
use Prim.Native.Nat.{ℕ, zero, suc, ◌-◌, ◌^◌, ◌≤◌, ◌<◌}
use native.Mathlib.Decide.{le_ind}
use native.Mathlib.Omega.{arith}
use lib.Dec.{eqb}
use lib.ListN.{get_or}
use borrow.Author.Tests.{eqb-true, eqb-false}
use Rattle.laws.specs.facts.Digit.{digit}
use Rattle.laws.specs.facts.Listing.{Member, Listing}
use Rattle.laws.proofs.SearchLaws.{true_false, lt_or_le}
use Rattle.laws.proofs.DecideLaws.{decided, eq_decides}
use Rattle.laws.proofs.FirstLaws.{compared}
use Rattle.laws.proofs.FromDigitLaws.{digit_not_one}
use Rattle.affinity.specs.facts.Level.{Affine, AffinityBit}
use Rattle.affinity.specs.facts.Mask.{Differ}
use Rattle.affinity.specs.answers.Mask.{mask_of}
use Rattle.affinity.specs.steps.List.{AllAffine}
use Rattle.affinity.proofs.MaskLaws.{mask_one, mask_holds}
use Rattle.plan.specs.facts.Plan.{Positions, Separates, SeparatedAt}
use Rattle.plan.specs.facts.Planner.{LeftAt, Kept, Thinned}
use Rattle.plan.specs.answers.Check.{clashes}
use Rattle.plan.specs.answers.Planner.{dropped, thinned, plan_of}
use Rattle.plan.proofs.DigitLessLaws.{less_same, less_other}
use Rattle.plan.proofs.SeparateLaws.{Ones, separates_more, differ_digit, clear_separates, separates_clear}
use Rattle.plan.proofs.PositionLaws.{bit_lt}
use Rattle.plan.proofs.KeepLaws.{ones_listing, ones_sound}

module _ (list : List ℕ) where
  -- one bit tried
  pub record Turn (keep k after : ℕ) : Type 0 where
    pub others : (j : ℕ) → (j ≡ k → ⊥) → digit after j ≡ digit keep j
    pub was : Ones after k → Ones keep k × (clashes list (keep - 2 ^ k) ≡ true)
    pub stays : Ones keep k → clashes list (keep - 2 ^ k) ≡ true → Ones after k
    pub separates : Separates list (Ones keep) → Separates list (Ones after)

  turn : (keep k : ℕ) → Turn keep k (dropped list keep k)
  unfolding dropped
  turn keep k = go (eqb (digit keep k) 1) refl (clashes list (keep - 2 ^ k)) refl
    where
      go :
          (b : Bool) →
          eqb (digit keep k) 1 ≡ b →
          (d : Bool) →
          clashes list (keep - 2 ^ k) ≡ d →
          Turn keep k (cond b (cond d keep (keep - 2 ^ k)) keep)
      go true e true f = record { others = λ j _. refl; was = λ one. (one, f); stays = λ one _. one; separates = λ h. h }
      go true e false f =
          let one = eqb-true (digit keep k) 1 e in
          record {
            others = λ j ne. less_other keep k j one ne;
            was = λ still. absurd (omega (arith, less_same keep k one));
            stays = λ _ t. true_false t f;
            separates = λ _. clear_separates list (keep - 2 ^ k) f;
          }
      go false e d f =
          let no = eqb-false (digit keep k) 1 e in
          record { others = λ j _. refl; was = λ one. absurd (no one); stays = λ one _. one; separates = λ h. h }

  abbrev at : ℕ → ℕ
  at = thinned list

  -- a bit not yet tried is as in the mask, and one that was tried stays as it is
  thin_above : (n j : ℕ) → n ≤ j → digit (at n) j ≡ digit (mask_of list) j
  unfolding thinned
  thin_above zero j le = refl
  thin_above (suc n) j le = (turn (at n) n).others j (λ e. omega arith) ∙ thin_above n j (omega arith)

  thin_below : (k n : ℕ) → k < n → digit (at n) k ≡ digit (at (suc k)) k
  unfolding thinned
  thin_below k n lt =
      le_ind (λ (m : ℕ). digit (at m) k ≡ digit (at (suc k)) k) refl
      (λ m le h. (turn (at m) m).others k (λ e. omega arith) ∙ h) n lt

  thin_separates : (n : ℕ) → Separates list (Ones (mask_of list)) → Separates list (Ones (at n))
  unfolding thinned
  thin_separates zero h = h
  thin_separates (suc n) h = (turn (at n) n).separates (thin_separates n h)

  -- a bit that is kept: it is one of the mask, and the others clash
  kept_was : (n k : ℕ) → k < n → Ones (at n) k → Ones (mask_of list) k × (clashes list (at k - 2 ^ k) ≡ true)
  unfolding thinned
  kept_was n k lt one =
      let t = (turn (at k) k).was (sym (thin_below k n lt) ∙ one) in
      (sym (thin_above k k (omega arith)) ∙ t.0, t.1)

  was_kept : (n k : ℕ) → k < n → Ones (mask_of list) k → clashes list (at k - 2 ^ k) ≡ true → Ones (at n) k
  unfolding thinned
  was_kept n k lt one t = thin_below k n lt ∙ (turn (at k) k).stays (thin_above k k (omega arith) ∙ one) t

  module _ (affine : AllAffine list) where
    -- the mask's ones are the bits in which two differ
    pub differ_bit : (k : ℕ) → Differ list k → AffinityBit k
    differ_bit k d =
        ⊎_elim
        (affine d.one d.one_in k)
        (λ zero_a.
        ⊎_elim
        (affine d.other d.other_in k)
        (λ zero_b. absurd (d.differs (digit_not_one a k zero_a ∙ sym (digit_not_one b k zero_b))))
        (decided (eq_decides (digit b k) 1)))
        (decided (eq_decides (digit a k) 1))
      where
        a : ℕ
        a = get_or list d.one 0

        b : ℕ
        b = get_or list d.other 0

    pub differ_mask : (k : ℕ) → Differ list k → Ones (mask_of list) k
    differ_mask k d = ((mask_holds list).ones k (omega (arith, bit_lt k (differ_bit k d)))).1 d

    pub mask_affine : Affine (mask_of list)
    mask_affine k one = let t = mask_one list k one in affine t.0 t.1 k t.2

    mask_differ : (k : ℕ) → Ones (mask_of list) k → Differ list k
    mask_differ k one = ((mask_holds list).ones k (omega (arith, bit_lt k (mask_affine k one)))).0 one

    mask_separates : Separates list (Ones (mask_of list))
    mask_separates x y p q ne =
        let d = differ_digit x y ne in
        let k = d.0 in
        let pair : Differ list k =
        record {
          one = p.index;
          other = q.index;
          one_in = p.inside;
          other_in = q.inside;
          differs = λ e. d.1 (rw (p.here, q.here) at e);
        } in
        record { bit = k; kind = differ_mask k pair; differs = d.1 }

    -- what is left of the mask once each bit was tried
    abbrev kept : ℕ
    kept = at 40

    kept_mask : (k : ℕ) → Ones kept k → Ones (mask_of list) k
    kept_mask k one = ⊎_elim (λ lt. (kept_was 40 k lt one).0) (λ le. sym (thin_above 40 k le) ∙ one) (lt_or_le k 40)

    pub kept_affine : Affine kept
    kept_affine k one = mask_affine k (kept_mask k one)

    ones : Listing (Ones kept) (plan_of list)
    unfolding plan_of
    ones = ones_listing kept kept_affine

    pub plan_positions : Positions (plan_of list)
    unfolding plan_of
    plan_positions = ones_sound kept kept_affine

    pub plan_separates : SeparatedAt list (plan_of list)
    plan_separates = separates_more list (Ones kept) (Member (plan_of list)) ones.all (thin_separates 40 mask_separates)

    -- where bit k is tried, the others that are left are those of the facts
    module _ (k : ℕ) (lt : k < 40) (one : Ones (mask_of list) k) where
      here : Ones (at k) k
      here = thin_above k k (omega arith) ∙ one

      left_ones : (j : ℕ) → LeftAt list (plan_of list) k j → Ones (at k - 2 ^ k) j
      left_ones j (inl t) =
          let m = t.1 in
          let below : j < k = t.0 in
          less_other (at k) k j here (λ e. omega arith)
          ∙ thin_below j k below
          ∙ sym (thin_below j 40 (omega arith))
          ∙ (rw m.here at (ones.only m.index m.inside))
      left_ones j (inr t) =
          let above : k < j = t.0 in
          less_other (at k) k j here (λ e. omega arith) ∙ thin_above k j (omega arith) ∙ differ_mask j t.1

      ones_left : (j : ℕ) → Ones (at k - 2 ^ k) j → LeftAt list (plan_of list) k j
      ones_left j o = ⊎_elim below (⊎_elim same above) (compared j k)
        where
          was : (j ≡ k → ⊥) → Ones (at k) j
          was ne = sym (less_other (at k) k j here ne) ∙ o

          below : j < k → LeftAt list (plan_of list) k j
          below l = inl (l, ones.all j (thin_below j 40 (omega arith) ∙ sym (thin_below j k l) ∙ was (λ e. omega arith)))

          same : j ≡ k → LeftAt list (plan_of list) k j
          same e = absurd (omega (arith, less_same (at k) k here, ap (digit (at k - 2 ^ k)) e, o))

          above : k < j → LeftAt list (plan_of list) k j
          above l = inr (l, mask_differ j (sym (thin_above k j (omega arith)) ∙ was (λ e. omega arith)))

    -- a bit is kept exactly where the facts keep it
    kept_is : (k : ℕ) → Ones kept k → Kept list (plan_of list) k
    kept_is k one =
        let lt = bit_lt k (kept_affine k one) in
        let t = kept_was 40 k lt one in
        let fewer = at k - 2 ^ k in
        record {
          in_mask = mask_differ k t.0;
          needed = λ h.
              true_false t.1
              (separates_clear list fewer (separates_more list (LeftAt list (plan_of list) k) (Ones fewer) (left_ones k lt t.0) h));
        }

    is_kept : (k : ℕ) → Kept list (plan_of list) k → Ones kept k
    is_kept k h = go (clashes list fewer) refl
      where
        fewer : ℕ
        fewer = at k - 2 ^ k

        one : Ones (mask_of list) k
        one = differ_mask k h.in_mask

        lt : k < 40
        lt = bit_lt k (differ_bit k h.in_mask)

        go : (t : Bool) → clashes list fewer ≡ t → Ones kept k
        go true e = was_kept 40 k lt one e
        go false e =
            let left = separates_more list (Ones fewer) (LeftAt list (plan_of list) k) (ones_left k lt one) (clear_separates list fewer e) in
            absurd (h.needed left)

    pub plan_thinned : Thinned list (plan_of list)
    plan_thinned =
        record {
          rising = ones.rising;
          only = λ i lt. kept_is (get_or (plan_of list) i 0) (ones.only i lt);
          all = λ k h. ones.all k (is_kept k h);
        }
