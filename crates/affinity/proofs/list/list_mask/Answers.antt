-- SPDX-License-Identifier: BSD-2-Clause OR GPL-2.0-or-later
-- `list_mask` tests the length, and then the or of the list for a bit outside. Assumes nothing.
use mathlib.Core.Path.{◌≡◌, sym, ◌∙◌}
use mathlib.Core.List.{List}
use Prim.Native.Nat.{ℕ, ◌<◌}
use native.Mathlib.Omega.{arith}
use lib.ListN.{length}
use borrow.Author.Tests.{eq-eqb, ne_eqb, eqb-true, eqb-false, lt-ltb}
use Rattle.std.specs.Prelude.{Ok, Err}
use Rattle.std.proofs.lemmas.Result.{err_from_is_err_and}
use Rattle.laws.specs.declared.rules.Broken.{Broken}
use Rattle.laws.specs.answers.Fault.{clear}
use Rattle.laws.specs.answers.Told.{broken_in}
use Rattle.laws.proofs.ToldLaws.{rule_shown}
use Rattle.affinity.specs.facts.Told.{ListMask}
use Rattle.affinity.specs.answers.Told.{mask_told}
use Rattle.affinity.specs.steps.Mask.{gathered}
use Rattle.affinity.specs.declared.mask.Gathered.{Gathered}
use Rattle.affinity.specs.answers.List.{list_fault, mask_answer}
use Rattle.affinity.proofs.ListLaws.{some_clear, fault_within}
use Rattle.affinity.proofs.list.list_mask.Goals as goal
use Rattle.affinity.proofs.list.list_mask.Goals.{then-is_empty-via-then-is_empty, then-is_empty-via-else-is_empty+then-list-gt-MAX_CPUS}

module _ (list : List ℕ) where
  abbrev no_length : ListMask
  no_length = record { number = 28; place = 0; mask = 0 }

  none : length list ≡ 0 → no_length ≡ mask_answer list
  unfolding list_fault mask_answer
  none e = rw (eq-eqb (length list) 0 e)

  many : 256 < length list → no_length ≡ mask_answer list
  unfolding list_fault mask_answer
  many lt = rw (ne_eqb (length list) 0 (λ z. omega arith), lt-ltb 256 (length list) lt)

  refused : (r : Broken) → list_fault list ≡ broken_in {A = ℕ} (Err r) → mask_told (Err r) ≡ mask_answer list
  unfolding mask_answer
  refused r e = rw (e, rule_shown r.rule)

  accepted : (g : Gathered) → list_fault list ≡ clear → g ≡ gathered list → mask_told (Ok g.mask) ≡ mask_answer list
  unfolding mask_answer gathered
  accepted g e f = rw (e, f)

pub returns-then-is_empty : goal.returns-then-is_empty
returns-then-is_empty c =
    let list = c.args.list.now in
    rw c.broken_at.ensures
    (record {
      answer = elim c.then-is_empty.branch [
        | then-is_empty-via-then-is_empty w ↦ none list (eqb-true (length list) 0 (sym w.if-is_empty.ensures))
        | then-is_empty-via-else-is_empty+then-list-gt-MAX_CPUS w ↦ many list (omega arith)
      ];
    })

pub returns-in_err-first_outside : goal.returns-in_err-first_outside
returns-in_err-first_outside c =
    let list = c.args.list.now in
    let p = err_from_is_err_and c.from_residual.result c.from_residual.ensures.1 in
    let within = fault_within list (eqb-false (length list) 0 (sym c.if-is_empty.ensures)) (omega arith) in
    rw (p.1, p.2) (record { answer = refused list c.in_err-first_outside.field-0.0 (within ∙ sym c.in_err-first_outside.ensures) })

pub returns-in_ok-first_outside : goal.returns-in_ok-first_outside
returns-in_ok-first_outside c =
    let list = c.args.list.now in
    let bits = c.gather-bits in
    let within = fault_within list (eqb-false (length list) 0 (sym c.if-is_empty.ensures)) (omega arith) in
    record { answer = accepted list bits.result (within ∙ sym c.in_ok-first_outside.ensures) bits.ensures }

pub returns-else-not-is_affine : goal.returns-else-not-is_affine
returns-else-not-is_affine c =
    let list = c.args.list.now in
    let test = c.is_affine in
    let bits = c.gather-bits in
    let within = fault_within list (eqb-false (length list) 0 (sym c.if-is_empty.ensures)) (omega arith) in
    let clear = some_clear list bits.result test.result bits.ensures test.ensures c.if-not-is_affine.false in
    record { answer = accepted list bits.result (within ∙ clear) bits.ensures }
