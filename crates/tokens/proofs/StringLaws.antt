-- SPDX-License-Identifier: BSD-2-Clause OR GPL-2.0-or-later
-- A string of a block is what stands before the next zero byte. Assumes nothing.
use mathlib.Core.Path.{◌≡◌, ap, ◌∙◌}
use mathlib.Core.Logic.{⊎_elim}
use mathlib.Core.List.{List}
use Prim.Native.Nat.{ℕ, ◌+◌, ◌-◌, ◌<◌}
use native.Mathlib.Omega.{arith}
use lib.ListN.{length, get_or}
use Rattle.laws.proofs.SearchLaws.{lt_or_le}
use Rattle.tokens.specs.facts.Token.{StringAt}
use Rattle.tokens.specs.answers.Read.{zero_from, behind_zero}
use Rattle.tokens.proofs.ZeroLaws.{zero_not_before, zero_before, zero_is, before_behind, behind_before, zero_follows}

pub zero_string : (block : List ℕ) (i : ℕ) → zero_from block i < length block → StringAt block i (zero_from block i - i)
zero_string block i lt =
    let s = zero_from block i in
    let low = zero_not_before block i in
    let back : i + (s - i) ≡ s = omega arith in
    record {
      inside = omega arith;
      zero_byte = ap (λ (k : ℕ). get_or block k 0) back ∙ zero_is block i lt;
      no_earlier = λ k l e. zero_before block i (i + k) (omega arith) (omega arith) e;
    }

pub string_zero : (block : List ℕ) (i len : ℕ) → StringAt block i len → zero_from block i ≡ i + len
string_zero block i len h =
    ⊎_elim
    (λ less. absurd (early less))
    (λ more.
    ⊎_elim
    (λ late. absurd (zero_before block i (i + len) (omega arith) late h.zero_byte))
    (λ same. omega arith)
    (lt_or_le (i + len) (zero_from block i)))
    (lt_or_le (zero_from block i) (i + len))
  where
    early : zero_from block i < i + len → ⊥
    early less =
        let s = zero_from block i in
        let low = zero_not_before block i in
        let in_range = h.inside in
        let back : i + (s - i) ≡ s = omega arith in
        h.no_earlier (s - i) (omega arith) (ap (λ (k : ℕ). get_or block k 0) back ∙ zero_is block i (omega arith))

-- a string begins exactly before the place behind the last zero byte
pub named_string : (block : List ℕ) (i : ℕ) → i < behind_zero block → StringAt block i (zero_from block i - i)
named_string block i lt = let z = behind_before block i lt in zero_string block i (zero_follows block i z.0 z.2 z.1 z.3)

pub string_named : (block : List ℕ) (i len : ℕ) → StringAt block i len → i < behind_zero block
string_named block i len h =
    let far = before_behind block (i + len) h.inside h.zero_byte in
    omega arith
