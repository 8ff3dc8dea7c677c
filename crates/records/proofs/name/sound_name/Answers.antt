-- SPDX-License-Identifier: BSD-2-Clause OR GPL-2.0-or-later
-- `sound_name` tests the length of a name and its range. Assumes nothing.
use native.Mathlib.Omega.{arith}
use borrow.Author.Tests.{ne_eqb, le-ltb}
use Rattle.std.proofs.lemmas.Bool.Decides.{nat_tests}
use Rattle.records.specs.answers.Check.{sound_name}
use Rattle.records.proofs.name.sound_name.Goals as goal

pub returns-then-len-most : goal.returns-then-len-most
unfolding sound_name
returns-then-len-most c = rw (ne_eqb c.args.len 0 (λ e. omega arith), le-ltb c.args.most c.args.len c.if-len-most.true.1) c.is_inside.ensures

pub returns-else-len-most : goal.returns-else-len-most
unfolding sound_name
returns-else-len-most c = grind (arith, nat_tests)
