-- SPDX-License-Identifier: BSD-2-Clause OR GPL-2.0-or-later
-- `read_image` tells what the blob breaks, and else reads the board that its records make. Assumes nothing.
use mathlib.Core.Path.{refl}
use Prim.Native.Nat.{ℕ}
use native.Mathlib.Omega.{arith}
use lib.ListN.{length-replicate}
use Rattle.std.proofs.lemmas.Result.{err_from_is_err_and}
use Rattle.laws.proofs.ToldLaws.{rule_counts}
use Rattle.loader.specs.facts.Image.{node_room, prop_room}
use Rattle.loader.proofs.ImageLaws.{refuses, reads}
use Rattle.loader.proofs.image.read_image.Goals as goal
use Rattle.loader.proofs.image.read_image.Goals.{In_ok-found}

pub returns-in_err-found : goal.returns-in_err-found
returns-in_err-found c =
    let a = c.args in
    let read = c.in_err-found.ensures in
    let told = c.in_err-found.field-0.0 in
    let refusal = err_from_is_err_and c.from_residual.result c.from_residual.ensures.1 in
    let t =
    refuses a.width a.blob.now a.rows.now (length-replicate {A = ℕ} node_room 0) (length-replicate {A = ℕ} prop_room 0) read.answer
    read.reading
    (rule_counts told.rule)
    read.place in
    rw (refusal.1, refusal.2) (record { answer = t.0; rows = t.1.0; words = t.1.1.0; demands = t.1.1.1 })

pub returns : goal.returns
returns c =
    let a = c.args in
    let read = c.in_ok-found.ensures in
    let done = c.read_board.ensures in
    let nodes = c.wide-node_words.ensures in
    let props = c.wide-words.ensures in
    let t =
    reads a.width a.blob.now a.rows.now (length-replicate {A = ℕ} node_room 0) (length-replicate {A = ℕ} prop_room 0) read.answer
    read.reading
    refl
    read.nodes
    read.props
    (λ i. omega (arith, (goal.at.returns c).In_ok-found.type_inv.rows i))
    (rw (nodes, props) at done.answer, (rw (nodes, props) at done.rows, rw (nodes, props) at done.demands)) in
    record { answer = t.0; rows = t.1.0; words = t.1.1.0; demands = t.1.1.1 }
