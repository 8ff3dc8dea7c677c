-- SPDX-License-Identifier: BSD-2-Clause OR GPL-2.0-or-later
-- `put_words` writes word after word, each behind those before it. Assumes nothing.
use mathlib.Core.Path.{◌≡◌, refl, sym, ◌∙◌}
use Prim.Native.Nat.{◌*◌, ◌-◌}
use native.Mathlib.Omega.{arith}
use lib.ListN.{length}
use lib.Seq.{take-length}
use borrow.Rule.Slice.PartMut.{same_len_mid}
use Rattle.wire.specs.facts.Bytes.{in_bytes, word_size}
use Rattle.wire.proofs.ByteLaws.{with_words_lem, without_words}
use Rattle.wire.proofs.PutLaws.{put_more}
use Rattle.wire.proofs.put.put_words.Goals as goal

pub returns-then-bytes-words : goal.returns-then-bytes-words
returns-then-bytes-words c = let a = c.args in without_words a.words.now a.bytes.now (omega arith)

pub loop-k-init : goal.loop-k-init
unfolding in_bytes
loop-k-init c = (omega arith, refl, refl)

pub loop-k-preserved : goal.loop-k-preserved
loop-k-preserved c =
    let call = c.put_word in
    let a = c.args in
    let inv = c.loop-k.invariant in
    let xs = c.loop-k.bytes in
    let start = word_size * c.loop-k.k in (
      inv.0,
      same_len_mid start (length xs - start) xs call.new.part call.auto.part ∙ inv.1,
      put_more a.words.now a.bytes.now xs call.new.part c.loop-k.k (omega arith) (omega arith) inv.2 call.ensures,
    )

pub returns : goal.returns
returns c =
    let words = c.args.words.now in
    let whole : c.loop-k.k ≡ length words = omega arith in
    (rw (whole, take-length words) at c.loop-k.invariant.2) ∙ sym (with_words_lem words c.args.bytes.now c.loop-k.invariant.0)
