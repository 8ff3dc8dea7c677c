-- SPDX-License-Identifier: BSD-2-Clause OR GPL-2.0-or-later
-- `put_answer` writes the eleven words. Assumes nothing.
use borrow.Author.Tests.{le-ltb}
use Rattle.sunderwath.specs.answers.Answer.{answer_words}
use Rattle.sunderwath.proofs.answer.put_answer.Goals as goal

pub returns-clause-answer : goal.returns-clause-answer
unfolding answer_words
returns-clause-answer c = rw (le-ltb _ _ c.requires) c.put_front.ensures
