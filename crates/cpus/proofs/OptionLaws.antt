-- SPDX-License-Identifier: BSD-2-Clause OR GPL-2.0-or-later
-- Whether a value is there, and whether it is another than a given number, as the code tests it. Assumes nothing.
use Rattle.std.specs.Prelude.{Option, None, Some, Ok, Err, not}
use Rattle.std.specs.Option.{option_eq, ok_or}
use mathlib.Core.Path.{◌≡◌, refl, sym, ap, ◌∙◌}
use mathlib.Core.Bool.{Bool, true, false}
use Prim.Native.Nat.{ℕ}
use lib.Dec.{eqb}
use Rattle.cpus.specs.answers.Cell.{is_number}

-- which value `ok_or` gave each answer for
pub ok_or_err : {A E : Type 0} (o : Option A) (e d : E) → Err d ≡ ok_or o e → (o ≡ None) × (d ≡ e)
ok_or_err None e d h = (refl, cc)
ok_or_err (Some x) e d h = absurd cc

pub ok_or_ok : {A E : Type 0} (o : Option A) (e : E) (x : A) → Ok x ≡ ok_or o e → o ≡ Some x
ok_or_ok None e x h = absurd cc
ok_or_ok (Some y) e x h = cc

-- the comparison of two values, the second a number
equal_is : (v : Option ℕ) (n : ℕ) → option_eq eqb v (Some n) ≡ is_number v n
equal_is (Some m) n = refl
equal_is None n = refl

not_not : (b : Bool) → not (not b) ≡ b
not_not true = refl
not_not false = refl

module _ (v : Option ℕ) (n : ℕ) {other : Bool} (tested : other ≡ not (option_eq eqb v (Some n))) where
  is : is_number v n ≡ not other
  is = sym (equal_is v n) ∙ sym (ap not tested ∙ not_not _)

  pub number_not : other ≡ true → is_number v n ≡ false
  number_not e = is ∙ ap not e

  pub number_is : other ≡ false → is_number v n ≡ true
  number_is e = is ∙ ap not e
