-- SPDX-License-Identifier: BSD-2-Clause OR GPL-2.0-or-later
-- The end of a name, found in the run that the name begins in or from the next run on. Assumes nothing.
use mathlib.Core.Path.{◌≡◌, refl, sym, ◌∙◌, ap, subst}
use mathlib.Core.Bool.{Bool, true, false}
use mathlib.Core.Logic.{⊎_elim}
use mathlib.Core.List.{List}
use Prim.Native.Nat.{ℕ, zero, suc, ◌+◌, ◌-◌, ◌*◌, ◌≤◌, ◌<◌}
use native.Mathlib.Omega.{arith}
use lib.Dec.{eqb}
use lib.ListN.{length, get_or, take, set}
use lib.Seq.{length-take-le, get_or-take, get_or-set_same, get_or-set_other}
use borrow.Author.Tests.{eqb-true, eqb-false}
use Rattle.laws.proofs.SearchLaws.{lt_or_le}
use Rattle.tokens.specs.answers.Read.{zero_from}
use Rattle.tokens.proofs.ZeroLaws.{zero_here, zero_next, zero_end, zero_inside}
use Rattle.blob.specs.steps.Ends.{EndsFrom}

-- the first zero byte is the one found before the edge, or else the first from the edge on
abbrev pub Found : List ℕ → ℕ → ℕ → Type 0
Found bytes edge at =
    let stop = zero_from (take edge bytes) at in
    (stop < edge → stop ≡ zero_from bytes at) × (edge ≤ stop → zero_from bytes edge ≡ zero_from bytes at)

module _ (bytes : List ℕ) (edge : ℕ) (le : edge ≤ length bytes) where
  found_before : (n at : ℕ) → at + n ≡ edge → Found bytes edge at
  found_before zero at e =
      let same : edge ≡ at = omega arith in
      let out = zero_end (take edge bytes) at (omega (arith, length-take-le edge bytes le)) in
      (λ lt. absurd (omega arith), λ ge. ap (zero_from bytes) same)
  found_before (suc n) at e = go (eqb (get_or bytes at 0) 0) refl (found_before n (at + 1) (omega arith))
    where
      inside : at < length (take edge bytes)
      inside = omega (arith, length-take-le edge bytes le)

      byte : get_or (take edge bytes) at 0 ≡ get_or bytes at 0
      byte = get_or-take edge bytes at 0 (omega arith)

      go : (b : Bool) → eqb (get_or bytes at 0) 0 ≡ b → Found bytes edge (at + 1) → Found bytes edge at
      go true q ih =
          let is = eqb-true (get_or bytes at 0) 0 q in
          let here = zero_here (take edge bytes) at inside (byte ∙ is) in
          (λ lt. here ∙ sym (zero_here bytes at (omega arith) is), λ ge. absurd (omega arith))
      go false q ih =
          let no = eqb-false (get_or bytes at 0) 0 q in
          let here = zero_next (take edge bytes) at inside (λ z. no (sym byte ∙ z)) in
          let there = sym (zero_next bytes at (omega arith) no) in
          (λ lt. here ∙ ih.0 (omega arith) ∙ there, λ ge. ih.1 (omega arith) ∙ there)

  pub found_at_lem : (at : ℕ) → at ≤ edge → Found bytes edge at
  found_at_lem at in_front = found_before (edge - at) at (omega arith)

-- the next zero byte, or the place told where there is none, is at most the length of the bytes behind the start
pub zero_near : (bytes : List ℕ) (i : ℕ) → zero_from bytes i ≤ i + length bytes
zero_near bytes i =
    ⊎_elim
    (λ lt. omega (arith, zero_inside bytes i (omega arith)))
    (λ le. omega (arith, zero_end bytes i le))
    (lt_or_le i (length bytes))

-- one run more
pub ends_more :
    (bytes table : List ℕ) (k v : ℕ) →
    k < length table →
    EndsFrom bytes table (k + 1) →
    v ≡ zero_from bytes (512 * k) →
    EndsFrom bytes (set table k v) k
ends_more bytes table k v lt h e j le in_bytes =
    ⊎_elim
    (λ more. get_or-set_other table k j v 0 (λ z. omega arith) ∙ h j (omega arith) in_bytes)
    (λ less.
    let same : k ≡ j = omega arith in
    subst (λ (i : ℕ). get_or (set table k v) i 0 ≡ zero_from bytes (512 * i)) same (get_or-set_same table k v 0 lt ∙ e))
    (lt_or_le k j)
