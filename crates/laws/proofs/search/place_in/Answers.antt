-- SPDX-License-Identifier: BSD-2-Clause OR GPL-2.0-or-later
-- `place_in` meets its contract: no place before the next one has the number, by fours and then one by one. Assumes nothing.
use mathlib.Core.Path.{◌≡◌, refl, sym, ◌∙◌}
use mathlib.Core.Bool.{Bool}
use mathlib.Core.List.{List}
use Prim.Native.Nat.{ℕ, ◌+◌, ◌*◌, ◌/◌}
use native.Mathlib.Omega.{arith}
use lib.Dec.{eqb}
use lib.ListN.{length, get_or}
use borrow.Author.Tests.{eq-eqb, ne_eqb}
use Rattle.laws.specs.answers.Search.{lowest}
use Rattle.laws.proofs.SearchLaws.{lowest_more, lowest_at}
use Rattle.laws.proofs.PassLaws.{lowest_end}
use Rattle.laws.proofs.search.place_in.Goals as goal

-- places up to i, and the one at i, that do not have the number
module _ (list : List ℕ) (x : ℕ) where
  abbrev is_at : ℕ → Bool
  is_at j = eqb (get_or list j 0) x

  next : (i : ℕ) {j : ℕ} → j ≡ i + 1 → lowest is_at i ≡ i → (get_or list i 0 ≡ x → ⊥) → lowest is_at j ≡ j
  next i e passed ne = rw e (lowest_more is_at i passed (ne_eqb _ _ ne))

pub loop-k-init : goal.loop-k-init
unfolding lowest
loop-k-init c = refl

pub returns-then-list-at-clause-place : goal.returns-then-list-at-clause-place
returns-then-list-at-clause-place c = lowest_at _ _ _ (omega (arith, c.loop-k-test.true)) c.loop-k.invariant (eq-eqb _ _ c.if-list-at.true)

pub returns-then-list-at-2-clause-place : goal.returns-then-list-at-2-clause-place
returns-then-list-at-2-clause-place c =
    let one = next c.args.list.now c.args.number (4 * c.loop-k.k) refl c.loop-k.invariant c.if-list-at.false in
    lowest_at _ _ _ (omega (arith, c.loop-k-test.true)) one (eq-eqb _ _ c.if-list-at-2.true)

pub returns-then-list-at-3-clause-place : goal.returns-then-list-at-3-clause-place
returns-then-list-at-3-clause-place c =
    let a = c.args in
    let at = 4 * c.loop-k.k in
    let one = next a.list.now a.number at refl c.loop-k.invariant c.if-list-at.false in
    let two = next a.list.now a.number (at + 1) {j = at + 2} (omega arith) one c.if-list-at-2.false in
    lowest_at _ _ _ (omega (arith, c.loop-k-test.true)) two (eq-eqb _ _ c.if-list-at-3.true)

pub returns-then-list-at-4-clause-place : goal.returns-then-list-at-4-clause-place
returns-then-list-at-4-clause-place c =
    let a = c.args in
    let at = 4 * c.loop-k.k in
    let one = next a.list.now a.number at refl c.loop-k.invariant c.if-list-at.false in
    let two = next a.list.now a.number (at + 1) {j = at + 2} (omega arith) one c.if-list-at-2.false in
    let three = next a.list.now a.number (at + 2) {j = at + 3} (omega arith) two c.if-list-at-3.false in
    lowest_at _ _ _ (omega (arith, c.loop-k-test.true)) three (eq-eqb _ _ c.if-list-at-4.true)

pub loop-k-preserved : goal.loop-k-preserved
loop-k-preserved c =
    let a = c.args in
    let at = 4 * c.loop-k.k in
    let one = next a.list.now a.number at refl c.loop-k.invariant c.if-list-at.false in
    let two = next a.list.now a.number (at + 1) {j = at + 2} (omega arith) one c.if-list-at-2.false in
    let three = next a.list.now a.number (at + 2) {j = at + 3} (omega arith) two c.if-list-at-3.false in
    next a.list.now a.number (at + 3) (omega arith) three c.if-list-at-4.false

pub loop-i-init : goal.loop-i-init
loop-i-init c = let all : c.loop-k.k ≡ length c.args.list.now / 4 = omega arith in rw all at c.loop-k.invariant

pub returns-then-list-i-clause-place : goal.returns-then-list-i-clause-place
returns-then-list-i-clause-place c = lowest_at _ _ _ c.loop-i-test.true c.loop-i.invariant (eq-eqb _ _ c.if-list-i.true)

pub loop-i-preserved : goal.loop-i-preserved
loop-i-preserved c = next c.args.list.now c.args.number c.loop-i.i refl c.loop-i.invariant c.if-list-i.false

pub returns-clause-place : goal.returns-clause-place
returns-clause-place c =
    let all : c.loop-i.i ≡ length c.args.list.now = omega (arith, c.loop-i.auto.i-end) in
    sym all ∙ lowest_end _ _ _ all c.loop-i.invariant
