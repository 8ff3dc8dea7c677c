-- SPDX-License-Identifier: BSD-2-Clause OR GPL-2.0-or-later
-- `read_blob` meets its contract: the header decides, and then its blocks, lent as slices. Assumes nothing.
use mathlib.Core.Path.{◌≡◌, sym, subst}
use Rattle.std.proofs.lemmas.Result.{err_from_is_err_and}
use Rattle.laws.proofs.ToldLaws.{rule_counts}
use Prim.Native.Nat.{◌+◌, ◌≤◌}
use native.Mathlib.Omega.{arith}
use lib.ListN.{length}
use lib.Seq.{length-take-le}
use Rattle.tokens.specs.facts.Token.{Blocks}
use Rattle.header.specs.answers.Fault.{header_fault, blocks_fault}
use Rattle.blob.specs.steps.Blocks.{Roomy}
use Rattle.blob.proofs.ReadLaws.{header_ends, lent_is, lent_sizes, lent_inside, header_met, blocks_met, blob_roomy, read_met}
use Rattle.blob.proofs.read_blob.Goals as goal
use Rattle.blob.proofs.read_blob.Goals.{After-block_places-found}

-- the header is sound, and its blocks
header-sound : (c : After-block_places-found) → header_fault c.args.blob.now ≡ 0
header-sound c = sym c.in_ok-header_fault.ensures

blocks-sound : (c : After-block_places-found) → blocks_fault c.args.blob.now ≡ 0
blocks-sound c = sym c.in_ok-blocks_fault.ensures

-- where the slices that are lent end
inside :
    (c : After-block_places-found) →
    let blob = c.args.blob.now in
    let p = c.block_places-found.result in
    (length blob ≤ 65536) × (p.start + p.size ≤ length blob) × (p.strings + p.names ≤ length blob)
inside c =
    let blob = c.args.blob.now in
    let ends = header_ends blob (header-sound c) (blocks-sound c) in
    let within = lent_inside blob c.block_places-found.ensures ends in
    (ends.short, within.0, within.1)

pub returns-in_err-header_fault : goal.returns-in_err-header_fault
returns-in_err-header_fault c =
    let a = c.args in
    let p = err_from_is_err_and c.from_residual.result c.from_residual.ensures.1 in
    let met = header_met a.blob.now a.nodes.now a.props.now c.in_err-header_fault.ensures (rule_counts c.in_err-header_fault.field-0.0) in
    rw (p.1, p.2)
    (record { answer = met.0; nodes = met.1.0; props = met.1.1.0; reading = met.1.1.1; place = omega arith })

pub returns-in_err-blocks_fault : goal.returns-in_err-blocks_fault
returns-in_err-blocks_fault c =
    let a = c.args in
    let exit = c.from_residual-in_err-blocks_fault in
    let p = err_from_is_err_and exit.result exit.ensures.1 in
    let met =
    blocks_met a.blob.now a.nodes.now a.props.now (sym c.in_ok-header_fault.ensures) c.in_err-blocks_fault.ensures
    (rule_counts c.in_err-blocks_fault.field-0.0) in
    rw (p.1, p.2)
    (record { answer = met.0; nodes = met.1.0; props = met.1.1.0; reading = met.1.1.1; place = omega arith })

pub overflow_add-end : goal.overflow_add-end
overflow_add-end c = let i = inside (goal.at.overflow_add-end c).After-block_places-found in omega (arith, i.0, i.1)

pub overflow_add-limit : goal.overflow_add-limit
overflow_add-limit c = let i = inside (goal.at.overflow_add-limit c).After-block_places-found in omega (arith, i.0, i.2)

pub slice_bounds-read_blocks-end : goal.slice_bounds-read_blocks-end
slice_bounds-read_blocks-end c = sym (length-take-le _ _ (inside (goal.at.slice_bounds-read_blocks-end c).After-block_places-found).1)

pub slice_bounds-read_blocks-end-2 : goal.slice_bounds-read_blocks-end-2
slice_bounds-read_blocks-end-2 c = (inside (goal.at.slice_bounds-read_blocks-end-2 c).After-block_places-found).2

pub read_blocks-requires : goal.read_blocks-requires
read_blocks-requires c =
    let a = c.args in
    let places = (goal.at.read_blocks-requires c).After-block_places-found in
    let header = header-sound places in
    let blocks = blocks-sound places in
    let is = c.block_places-found.ensures in
    record {
      sizes = lent_sizes a.blob.now is (header_ends a.blob.now header blocks);
      room =
          subst (λ (b : Blocks). Roomy b (length a.nodes.now) (length a.props.now)) (sym (lent_is a.blob.now is))
          (blob_roomy a.blob.now a.nodes.now a.props.now header blocks);
    }

pub returns : goal.returns
returns c =
    let a = c.args in
    let places = (goal.at.returns c).After-block_places-found in
    let left = c.read_blocks.ensures in
    let met =
    read_met a.blob.now a.nodes.now a.props.now (header-sound places) (blocks-sound places) (lent_is a.blob.now c.block_places-found.ensures)
    (left.answer, (left.nodes, left.props)) in
    record { answer = met.0; nodes = met.1.0; props = met.1.1.0; reading = met.1.1.1; place = left.place }
