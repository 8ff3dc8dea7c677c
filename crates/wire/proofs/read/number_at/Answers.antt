-- SPDX-License-Identifier: BSD-2-Clause OR GPL-2.0-or-later
-- `number_at` reads a number that has its bytes. Assumes nothing.
use mathlib.Core.Path.{sym, ◌∙◌}
use native.Mathlib.Omega.{arith}
use Prim.Native.Nat.{◌+◌, ◌-◌, ◌≤◌}
use lib.ListN.{length, drop, length-drop}
use lib.Seq.{length-take-le}
use Rattle.wire.proofs.ReadLaws.{number_missing, number_read}
use Rattle.wire.proofs.read.number_at.Goals as goal

pub returns-then-bytes-lt-NUMBER_BYTES : goal.returns-then-bytes-lt-NUMBER_BYTES
returns-then-bytes-lt-NUMBER_BYTES c = let a = c.args in sym (number_missing a.bytes.now a.at (omega (arith, c.if-bytes-lt-NUMBER_BYTES.true)))

pub returns-then-bytes-at : goal.returns-then-bytes-at
returns-then-bytes-at c = let a = c.args in sym (number_missing a.bytes.now a.at (omega (arith, c.if-bytes-at.true, c.if-bytes-lt-NUMBER_BYTES.false)))

pub returns-in_default : goal.returns-in_default
returns-in_default c =
    let a = c.args in
    let inside : a.at + 8 ≤ length a.bytes.now = omega (arith, c.if-bytes-at.false, c.if-bytes-lt-NUMBER_BYTES.false) in
    let long = length-take-le (a.at + 8 - a.at) (drop a.at a.bytes.now) (omega (arith, length-drop a.at a.bytes.now)) in
    absurd (omega (arith, c.in_default.ensures.cases, long))

pub returns : goal.returns
returns c =
    let a = c.args in
    c.from_le_bytes.ensures
    ∙ number_read a.at a.bytes.now _ (omega (arith, c.if-bytes-at.false, c.if-bytes-lt-NUMBER_BYTES.false)) c.in-Some.ensures.cases
