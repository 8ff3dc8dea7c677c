-- SPDX-License-Identifier: BSD-2-Clause OR GPL-2.0-or-later
-- A word at a name's start and a number's digits, one byte at a time. Assumes nothing.
use Rattle.std.specs.Prelude.{Option, None, Some}
use mathlib.Core.Path.{◌≡◌, refl, ◌∙◌}
use mathlib.Core.Logic.{inl, inr}
use mathlib.Core.Bool.{Bool, true, false, cond, not, ◌||◌}
use mathlib.Core.List.{List, [], ◌∷◌}
use Prim.Native.Nat.{ℕ, ◌+◌, ◌-◌, ◌*◌, ◌^◌, ◌≤◌, ◌<◌}
use native.Mathlib.Nat.{pow-suc, pow-le-pow_right, zero-lt-suc}
use native.Mathlib.Numerals.{add-one}
use native.Mathlib.Omega.{arith}
use lib.Dec.{eqb, ltb}
use borrow.Author.Tests.{lt-ltb, le-ltb}
use Rattle.std.specs.Char.{IsAsciiDigit, IsNotAsciiDigit}
use Rattle.std.specs.List.{list_any, zip}
use lib.ListN.{length, take, drop, get_or}
use lib.Seq.{drop-cons, drop-length}
use Rattle.names.specs.answers.Name.{starts_with, digits_from}

-- a name shorter than a word does not begin with it
pub starts_short : (word name : List ℕ) → length name < length word → starts_with word name ≡ false
unfolding starts_with
starts_short [] name h = absurd (omega arith)
starts_short (w ∷ ws) [] h = refl
starts_short (w ∷ ws) (b ∷ bs) h = go (eqb b w) (starts_short ws bs (omega arith))
  where
    go : (t : Bool) → starts_with ws bs ≡ false → cond t (starts_with ws bs) false ≡ false
    go true ih = ih
    go false ih = refl

-- any other begins with it where no byte of its start is another than the word's
abbrev pub differ : ℕ × ℕ → Bool
differ p = not (eqb p.0 p.1)

pub starts_long :
    (word name : List ℕ) → length word ≤ length name → list_any differ (zip (take (length word) name) word) ≡ not (starts_with word name)
unfolding starts_with
starts_long [] name h = refl
starts_long (w ∷ ws) [] h = absurd (omega arith)
starts_long (w ∷ ws) (b ∷ bs) h = go (eqb b w) (starts_long ws bs (omega arith))
  where
    go :
        (t : Bool) →
        list_any differ (zip (take (length ws) bs) ws) ≡ not (starts_with ws bs) →
        (not t || list_any differ (zip (take (length ws) bs) ws)) ≡ not (cond t (starts_with ws bs) false)
    go true ih = ih
    go false ih = refl

-- one digit more, and a byte that is none
digits_step :
    (ds : List ℕ) (v i : ℕ) →
    i < length ds →
    digits_from v (drop i ds)
    ≡ cond (ltb (get_or ds i 0) 48) None (cond (ltb 57 (get_or ds i 0)) None (digits_from (v * 10 + (get_or ds i 0 - 48)) (drop (i + 1) ds)))
unfolding digits_from
digits_step ds v i h = rw (add-one, drop-cons ds i 0 h)

pub digits_more :
    (ds : List ℕ) (v i : ℕ) →
    i < length ds →
    IsAsciiDigit (get_or ds i 0) →
    digits_from v (drop i ds) ≡ digits_from (v * 10 + (get_or ds i 0 - 48)) (drop (i + 1) ds)
digits_more ds v i h d = digits_step ds v i h ∙ rw (le-ltb _ _ d.0, le-ltb _ _ d.1)

pub digits_stop : (ds : List ℕ) (v i : ℕ) → i < length ds → IsNotAsciiDigit (get_or ds i 0) → digits_from v (drop i ds) ≡ None
digits_stop ds v i h d = rw (digits_step ds v i h) (stops (get_or ds i 0) _ d)
  where
    stops : (b : ℕ) (rest : Option ℕ) → IsNotAsciiDigit b → cond (ltb b 48) None (cond (ltb 57 b) None rest) ≡ None
    stops b rest (inl low) = rw (lt-ltb b 48 low)
    stops b rest (inr high) = rw (le-ltb b 48 (omega arith), lt-ltb 57 b high)

pub digits_end : (ds : List ℕ) (v i : ℕ) → i ≡ length ds → digits_from v (drop i ds) ≡ Some v
unfolding digits_from
digits_end ds v i e = rw (e, drop-length ds)

-- at most four digits
pub power_le : (i : ℕ) → i ≤ 4 → 10 ^ i ≤ 10000
power_le i h = pow-le-pow_right (zero-lt-suc 9) h

pub power_next : (i : ℕ) → 10 ^ (i + 1) ≡ 10 ^ i * 10
power_next i = rw add-one (pow-suc 10 i)
