-- SPDX-License-Identifier: BSD-2-Clause OR GPL-2.0-or-later
-- `put_reply` writes the four words as bytes. Assumes nothing.
use mathlib.Core.List.{[], ◌∷◌}
use borrow.Author.Tests.{le-ltb}
use Rattle.wire.proofs.ByteLaws.{with_words_lem}
use Rattle.sunderwath.proofs.bytes.put_reply.Goals as goal

pub returns-clause-answer : goal.returns-clause-answer
returns-clause-answer c =
    let t = c.args.told in
    let words = t.number ∷ t.place ∷ t.second ∷ c.args.last ∷ [] in
    rw (le-ltb _ _ c.requires, ← with_words_lem words c.args.answer.now c.requires) c.put_words.ensures
