-- SPDX-License-Identifier: BSD-2-Clause OR GPL-2.0-or-later
-- `property_at` meets its contract. Assumes nothing.
use Rattle.std.proofs.Common.{arith}
use Rattle.std.proofs.lemmas.Grind.{common_steps}
use Rattle.tokens.specs.answers.Read.{property_read}
use Rattle.tokens.proofs.token.property_at.Goals as goal

pub returns-then-block-stop : goal.returns-then-block-stop
unfolding property_read
returns-then-block-stop g c = grind (arith, common_steps)

pub returns-then-named-name : goal.returns-then-named-name
unfolding property_read
returns-then-named-name g c = grind (arith, common_steps)

pub returns : goal.returns
unfolding property_read
returns g c = grind (arith, common_steps)
