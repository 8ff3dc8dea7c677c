-- SPDX-License-Identifier: BSD-2-Clause OR GPL-2.0-or-later
-- `behind_zero` finds the last zero byte. Assumes nothing.
use Rattle.std.proofs.Common.{rules}
use Rattle.tokens.proofs.ZeroLaws.{behind_last, behind_nowhere}
use Rattle.tokens.proofs.zero.behind_zero.Goals as goal

pub returns-in-Some : goal.returns-in-Some
returns-in-Some c = behind_last c.args.bytes.now c.in-Some.i (search rules) (search rules) (search rules)

pub returns-in-None : goal.returns-in-None
returns-in-None c = behind_nowhere c.args.bytes.now (search rules)
