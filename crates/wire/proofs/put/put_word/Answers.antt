-- SPDX-License-Identifier: BSD-2-Clause OR GPL-2.0-or-later
-- `put_word` writes the bytes of a word, and the rest stays; a part too short stays whole. Assumes nothing.
use mathlib.Core.Path.{sym, ap, ◌∙◌}
use mathlib.Core.List.{List, [], ◌∷◌, ◌++◌}
use Prim.Native.Nat.{ℕ}
use native.Mathlib.Omega.{arith}
use lib.ListN.{drop}
use Rattle.wire.proofs.ByteLaws.{with_words_lem, without_words}
use Rattle.wire.proofs.PutLaws.{word_bytes}
use Rattle.wire.proofs.put.put_word.Goals as goal

pub returns-in-Some : goal.returns-in-Some
returns-in-Some c =
    let a = c.args in
    ap (λ (l : List ℕ). l ++ drop 4 a.part.now) (c.to_le_bytes.ensures ∙ word_bytes a.word)
    ∙ sym (with_words_lem (a.word ∷ []) a.part.now (omega (arith, c.in-Some.ensures.cases.enough)))

pub returns-in_default : goal.returns-in_default
returns-in_default c = without_words (c.args.word ∷ []) c.args.part.now (omega (arith, c.in_default.ensures.cases))
