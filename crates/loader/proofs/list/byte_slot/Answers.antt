-- SPDX-License-Identifier: BSD-2-Clause OR GPL-2.0-or-later
-- `byte_slot` reads whole MPIDRs and asks for the slot in their list. Assumes nothing.
use mathlib.Core.Path.{◌≡◌, sym, ap, ◌∙◌}
use mathlib.Core.List.{List}
use Prim.Native.Nat.{ℕ, ◌/◌, ◌≤◌}
use native.Mathlib.Omega.{arith}
use lib.ListN.{length, take, replicate, length-replicate}
use Rattle.std.proofs.lemmas.Result.{err_from_is_err_and}
use Rattle.laws.proofs.ToldLaws.{rule_counts}
use Rattle.wire.specs.facts.Bytes.{numbers_in}
use Rattle.wire.proofs.ByteLaws.{numbers_length}
use Rattle.affinity.specs.answers.List.{slot_answer}
use Rattle.laws.specs.answers.Listed.{laid_over}
use Rattle.laws.proofs.FrontLaws.{front_is}
use Rattle.loader.proofs.SlotLaws.{Owed, cut, long, listed, outside}
use Rattle.loader.proofs.list.byte_slot.Goals as goal
use Rattle.loader.proofs.list.byte_slot.Goals.{then-list-ne0-via-then-list-ne0, then-list-ne0-via-else-list-ne0+then-count-gt-MAX_CPUS}

-- all MPIDRs of the list are at the front of the array
front :
    (bytes mpidrs : List ℕ) →
    length bytes / 8 ≤ 256 →
    mpidrs ≡ laid_over (numbers_in bytes) (replicate 256 0) →
    take (length bytes / 8) mpidrs ≡ numbers_in bytes
front bytes mpidrs few laid =
    front_is (numbers_in bytes) (replicate 256 0) laid (sym (numbers_length bytes))
    (omega (arith, numbers_length bytes, length-replicate {A = ℕ} 256 0))

pub returns-then-list-ne0 : goal.returns-then-list-ne0
returns-then-list-ne0 c =
    let a = c.args in
    let t : Owed a.list.now a.mpidr (record { number = 28; place = 0; slot = 0 }) =
    elim c.then-list-ne0.branch [
      | then-list-ne0-via-then-list-ne0 w ↦ cut a.list.now a.mpidr w.if-list-ne0.true
      | then-list-ne0-via-else-list-ne0+then-count-gt-MAX_CPUS w ↦ long a.list.now a.mpidr w.if-list-ne0.false w.if-count-gt-MAX_CPUS.true
    ] in
    rw c.broken_at.ensures (record { answer = t.0; demands = t.1 })

pub returns-in_err-read_mpidrs : goal.returns-in_err-read_mpidrs
returns-in_err-read_mpidrs c =
    let a = c.args in
    let told = c.in_err-read_mpidrs.field-0.0 in
    let broken = err_from_is_err_and c.from_residual.result c.from_residual.ensures.1 in
    let read = c.in_err-read_mpidrs.ensures in
    let t = outside a.list.now a.mpidr c.if-list-ne0.false (omega (arith, c.if-count-gt-MAX_CPUS.false)) read.fault (rule_counts told.rule) in
    rw (broken.1, broken.2) (record { answer = t.0; demands = t.1 })

pub returns : goal.returns
returns c =
    let a = c.args in
    let slot = c.list_slot.ensures in
    let few : length a.list.now / 8 ≤ 256 = omega (arith, c.if-count-gt-MAX_CPUS.false) in
    let all = front a.list.now c.read_mpidrs.new.mpidrs few c.in_ok-read_mpidrs.ensures.mpidrs in
    let t = listed a.list.now a.mpidr c.if-list-ne0.false (slot.answer ∙ ap (slot_answer a.mpidr) all) in
    record { answer = t.0; demands = t.1 }
