-- SPDX-License-Identifier: BSD-2-Clause OR GPL-2.0-or-later
-- `read_numbers` meets its contract: the pass holds before each record. Assumes nothing.
use mathlib.Core.Path.{refl, ◌∙◌}
use Prim.Native.Nat.{◌<◌}
use native.Mathlib.Omega.{arith}
use lib.ListN.{length, length-take}
use lib.Seq.{get_or-take}
use Rattle.std.proofs.lemmas.Result.{err_from_is_err_and}
use Rattle.laws.specs.answers.Told.{told_of}
use Rattle.laws.proofs.ToldLaws.{rule_counts}
use Rattle.cpus.proofs.NumberPassLaws.{pass_start, pass_next, pass_told, pass_end}
use Rattle.cpus.proofs.numbers.read_numbers.Goals as goal

pub loop-k-init : goal.loop-k-init
loop-k-init c = pass_start _ _ _ _

pub loop-k-preserved : goal.loop-k-preserved
loop-k-preserved c =
    let read = c.in_ok-found.ensures in
    let n = c.min-n.result in
    let cut = length-take n c.args.records.now in
    let inside : (c.loop-k.k < length c.args.records.now) × (c.loop-k.k < length c.loop-k.values) = omega (arith, c.min-n.ensures, cut) in
    let is = c.from-i.ensures ∙ get_or-take n c.args.records.now c.loop-k.k 0 (omega (arith, cut)) in
    pass_next _ _ _ _ _ _ is c.loop-k.invariant inside.0 inside.1 read.number read.value refl

pub returns-in_err-found : goal.returns-in_err-found
returns-in_err-found c =
    let p = err_from_is_err_and c.from_residual.result c.from_residual.ensures.1 in
    let read = c.in_err-found.ensures in
    let n = c.min-n.result in
    let cut = length-take n c.args.records.now in
    let inside : (c.loop-k.k < length c.args.records.now) × (c.loop-k.k < length c.loop-k.values) = omega (arith, c.min-n.ensures, cut) in
    let is = c.from-i.ensures ∙ get_or-take n c.args.records.now c.loop-k.k 0 (omega (arith, cut)) in
    let fault = told_of c.in_err-found.field-0.0 in
    let told =
    pass_told _ _ _ _ _ _ is c.loop-k.invariant inside.0 inside.1 fault read.number read.place read.second (rule_counts _) in
    rw (p.1, p.2) (record { fault = told.0; values = told.1 })

pub returns : goal.returns
returns c =
    let told = pass_end _ _ _ _ _ c.loop-k.invariant (omega (arith, c.min-n.ensures, length-take c.min-n.result c.args.records.now)) in
    record { fault = told.0; values = told.1 }
