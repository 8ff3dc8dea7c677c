-- SPDX-License-Identifier: BSD-2-Clause OR GPL-2.0-or-later
-- `read_mpidrs` reads one MPIDR after the other, and stops at the first with a bit outside. Assumes nothing.
use mathlib.Core.Path.{◌≡◌, refl, sym, ap, ◌∙◌}
use mathlib.Core.List.{List}
use Prim.Native.Nat.{ℕ, ◌*◌, ◌/◌, ◌<◌}
use native.Mathlib.Omega.{arith}
use lib.ListN.{length, get_or, take, drop}
use Rattle.laws.specs.answers.Fault.{first_fault}
use Rattle.laws.specs.answers.Listed.{laid_over}
use Rattle.laws.proofs.FaultLaws.{clear_more, at_fault, at_end}
use Rattle.laws.proofs.OverLaws.{over_none}
use Rattle.wire.specs.facts.Bytes.{number_size, number_of, held, numbers_in}
use Rattle.wire.proofs.ByteLaws.{numbers_length}
use Rattle.wire.proofs.ReadLaws.{number_there, held_at, read_more}
use Rattle.affinity.specs.answers.List.{first_outside}
use Rattle.loader.proofs.list.read_mpidrs.Invariants.{outside}
use Rattle.loader.proofs.list.read_mpidrs.Goals as goal
use Rattle.loader.proofs.list.read_mpidrs.Goals.{After-number_at-mpidr}

-- the MPIDR that is read
module _ (c : After-number_at-mpidr) where
  abbrev list : List ℕ
  list = c.args.list.now

  abbrev k : ℕ
  k = c.loop-k.k

  more : k < length list / number_size
  more = omega (arith, c.loop-k-test.true)

  read : c.number_at-mpidr.result ≡ number_of (take number_size (drop (number_size * k) list))
  read = c.number_at-mpidr.ensures ∙ number_there list (number_size * k) (omega (arith, more))

  is_number : c.number_at-mpidr.result ≡ get_or (numbers_in list) k 0
  is_number = read ∙ sym (held_at number_size (length list / number_size) k list more)

pub loop-k-init : goal.loop-k-init
unfolding held first_fault
loop-k-init c = (sym (over_none c.args.mpidrs.now), refl)

pub returns-then-not-is_affine-clause-fault : goal.returns-then-not-is_affine-clause-fault
unfolding first_outside
returns-then-not-is_affine-clause-fault c =
    let p = (goal.at.returns-then-not-is_affine-clause-fault c).After-number_at-mpidr in
    let l = c.args.list.now in
    let bit : 29 ≡ outside l c.loop-k.k = rw (← is_number p, ← c.is_affine.ensures, c.if-not-is_affine.true) in
    rw c.broken_at.ensures
    (at_fault (outside l) c.loop-k.k (length (numbers_in l)) (omega (arith, more p, numbers_length l)) c.loop-k.invariant.1 bit (λ z. omega arith))

pub loop-k-preserved : goal.loop-k-preserved
loop-k-preserved c =
    let p = (goal.at.loop-k-preserved c).After-number_at-mpidr in
    let l = c.args.list.now in
    let inv = c.loop-k.invariant in (
      read_more number_size c.loop-k.k l c.args.mpidrs.now (omega (arith, more p, c.requires)) (read p) inv.0,
      clear_more (outside l) c.loop-k.k inv.1 refl (rw (← is_number p, ← c.is_affine.ensures, c.if-not-is_affine.false)),
    )

pub returns : goal.returns
unfolding first_outside
returns c =
    let a = c.args in
    let l = a.list.now in
    let inv = c.loop-k.invariant in
    let all : c.loop-k.k ≡ length l / number_size = omega (arith, c.loop-k.auto.k-end, c.loop-k-test.false) in
    record {
      fault = at_end (outside l) c.loop-k.k (length (numbers_in l)) (all ∙ sym (numbers_length l)) inv.1;
      mpidrs = inv.0 ∙ ap (λ (n : ℕ). laid_over (held number_size n l) a.mpidrs.now) all;
    }
