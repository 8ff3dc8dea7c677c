-- SPDX-License-Identifier: BSD-2-Clause OR GPL-2.0-or-later
-- `is_cpu_name` meets its contract: a name of four bytes or more is not `cpu`. Assumes nothing.
use mathlib.Core.Path.{◌≡◌, refl, ◌∙◌}
use mathlib.Core.Bool.{Bool, true, false, cond}
use native.Mathlib.Omega.{arith}
use borrow.Author.Tests.{lt-ltb, le-ltb}
use Rattle.tables.specs.answers.Range.{range_is}
use Rattle.tables.proofs.CodePool.{other_length}
use Rattle.tables.specs.facts.Binding.{cpu_word}
use Rattle.cpus.specs.answers.Check.{is_cpu_name}
use Rattle.cpus.proofs.node.is_cpu_name.Goals as goal

-- of a short name the first test alone counts
alone : (b : Bool) → b ≡ cond b true false
alone true = refl
alone false = refl

pub returns-then-len-lt4 : goal.returns-then-len-lt4
unfolding is_cpu_name
returns-then-len-lt4 c = rw (lt-ltb _ _ c.if-len-lt4.true) (c.range_names.ensures ∙ alone _)

pub returns : goal.returns
unfolding is_cpu_name
returns c =
    let a = c.args in
    let not_short : false ≡ range_is a.pool.now a.offset a.len cpu_word =
    other_length a.pool.now a.offset a.len cpu_word (λ e. omega (arith, e, c.if-len-lt4.false)) in
    rw (← not_short, le-ltb _ _ c.if-len-lt4.false) c.range_names-2.ensures
