-- SPDX-License-Identifier: BSD-2-Clause OR GPL-2.0-or-later
-- The answer and the row buffer by what is told of a family of rules. Assumes nothing.
use mathlib.Core.Path.{◌≡◌, refl, sym}
use mathlib.Core.Logic.{◌↔◌}
use mathlib.Core.Bool.{Bool, true, false}
use mathlib.Core.List.{List}
use Prim.Native.Nat.{ℕ, ◌≤◌, ◌<◌}
use native.Mathlib.Omega.{arith}
use lib.Dec.{eqb}
use lib.ListN.{length}
use borrow.Author.Tests.{eq-eqb, ne_eqb, eqb-true, eqb-false}
use Rattle.laws.specs.facts.Told.{Fault}
use Rattle.laws.specs.answers.Fault.{or_else}
use Rattle.laws.proofs.FaultLaws.{or_first, or_second}
use Rattle.laws.proofs.FirstLaws.{Tells}
use Rattle.laws.proofs.RuleStageLaws.{tells_first}
use Rattle.affinity.specs.declared.Hash.{Hash}
use Rattle.tables.specs.facts.Board.{Board}
use Rattle.tables.specs.facts.Second.{Second}
use Rattle.wellformed.specs.facts.Order.{stages, stage}
use Rattle.rows.specs.answers.Write.{Source}
use Rattle.demands.specs.facts.Rules.{Told}
use Rattle.demands.specs.facts.Reading.{Refused}
use Rattle.demands.specs.answers.Answer.{answer_by, rows_by}

-- the broken rule told of a family whose rules are all of these stages
pub told_first :
    {Rule : ℕ → ℕ → Type 0} {to : ℕ} {f : Fault} →
    to ≤ length stages →
    ((n p : ℕ) → Rule n p → stage n < to) →
    Tells stage Rule 0 to f →
    (f.number ≡ 0 → ⊥) →
    Told Rule f.number f.place
told_first le all tells ne = record { first = tells_first all tells ne; staged = omega (arith, (tells.told ne).broken.2) }

module _ (f : Fault) (count : ℕ) (hash : Hash) where
  -- the answer's number is that of the fault
  pub by_number : (answer_by f count hash).number ≡ f.number
  by_number = go (eqb f.number 0) refl
    where
      go : (t : Bool) → eqb f.number 0 ≡ t → (answer_by f count hash).number ≡ f.number
      go true e = rw e (sym (eqb-true f.number 0 e))
      go false e = rw e

  pub by_refusal :
      {b : Board} {Rule : ℕ → ℕ → Type 0} (s : Source) (before : List ℕ) →
      (f.number ≡ 0 → ⊥) →
      Told Rule f.number f.place →
      ((v : ℕ) → Second b f.number f.place v ↔ (v ≡ f.second)) →
      Refused b Rule before (answer_by f count hash) (rows_by f s before)
  by_refusal s before ne first second =
      rw (ne_eqb f.number 0 ne)
      (record {
        first = first;
        second = second;
        count = refl;
        hash = refl;
        buffer = refl;
      })

  -- a later fault that tells nothing leaves answer and buffer
  pub by_else :
      (g : Fault) (s : Source) (before : List ℕ) →
      (f.number ≡ 0 → g.number ≡ 0) →
      (answer_by (or_else f g) count hash ≡ answer_by f count hash) × (rows_by (or_else f g) s before ≡ rows_by f s before)
  by_else g s before clear = go (eqb f.number 0) refl
    where
      go :
          (t : Bool) →
          eqb f.number 0 ≡ t →
          (answer_by (or_else f g) count hash ≡ answer_by f count hash) × (rows_by (or_else f g) s before ≡ rows_by f s before)
      go true e =
          let z = eqb-true f.number 0 e in
          rw (or_second f g z, eq-eqb g.number 0 (clear z), e) (refl, refl)
      go false e = rw (or_first f g (eqb-false f.number 0 e)) (refl, refl)
