-- SPDX-License-Identifier: BSD-2-Clause OR GPL-2.0-or-later
-- `same_last` tells two strings apart by their last bytes: equal ones have the same. Assumes nothing.
use mathlib.Core.Path.{◌≡◌, refl, sym, ap, ◌∙◌}
use mathlib.Core.Bool.{Bool, true, false}
use mathlib.Core.List.{List}
use Prim.Native.Nat.{ℕ, ◌-◌}
use lib.Dec.{eqb}
use lib.ListN.{length}
use borrow.Author.Tests.{eq-eqb}
use Rattle.std.specs.Prelude.{Option, Some, unwrap_or}
use Rattle.std.specs.List.{slice_get}
use Rattle.laws.specs.answers.Same.{same_list}
use Rattle.laws.proofs.SearchLaws.{true_false}
use Rattle.laws.proofs.SameLaws.{same_equal}
use Rattle.tables.proofs.pool.same_last.Goals as goal

-- strings whose last bytes differ are not the same
apart :
    (a b : List ℕ) {x y : ℕ} →
    Some x ≡ slice_get a (length a - 1) →
    Some y ≡ slice_get b (length b - 1) →
    eqb x y ≡ false →
    same_list a b ≡ false
apart a b {x} {y} p q differ = go (same_list a b) refl
  where
    go : (t : Bool) → same_list a b ≡ t → same_list a b ≡ false
    go true e =
        let both : Some x ≡ Some y = p ∙ ap (λ (l : List ℕ). slice_get l (length l - 1)) (same_equal a b e) ∙ sym q in
        let same : x ≡ y = ap (λ (o : Option ℕ). unwrap_or o 0) both in
        true_false (eq-eqb x y same) differ
    go false e = e

pub returns-in-Some-Some : goal.returns-in-Some-Some
returns-in-Some-Some c = λ differ. apart c.args.a.now c.args.b.now c.in-Some-Some.ensures.value c.in-Some-Some.ensures'.value differ
