-- SPDX-License-Identifier: BSD-2-Clause OR GPL-2.0-or-later
-- `plan_number` tests the positions, and then the list under them. Assumes nothing.
use mathlib.Core.Path.{sym, ◌∙◌}
use Rattle.plan.specs.answers.Check.{plan_number}
use Rattle.plan.proofs.PositionLaws.{good_sound}
use Rattle.plan.proofs.check.plan_number.Goals as goal
use Rattle.plan.proofs.check.plan_number.Goals.{then-bad_positions-via-then-bad_positions, then-bad_positions-via-else-bad_positions+then-clashes}

pub keep_of-requires : goal.keep_of-requires
keep_of-requires c = good_sound _ (sym c.bad_positions.ensures ∙ c.if-bad_positions.false)

pub returns-then-bad_positions : goal.returns-then-bad_positions
unfolding plan_number
returns-then-bad_positions c =
    elim c.then-bad_positions.branch [
      | then-bad_positions-via-then-bad_positions w ↦ rw (sym c.bad_positions.ensures ∙ w.if-bad_positions.true)
      | then-bad_positions-via-else-bad_positions+then-clashes w ↦
          rw (
            sym c.bad_positions.ensures ∙ w.if-bad_positions.false,
            ← w.keep_of.ensures,
            sym w.clashes.ensures ∙ w.if-clashes.true,
          )
    ]

pub returns : goal.returns
unfolding plan_number
returns c =
    rw (
      sym c.bad_positions.ensures ∙ c.if-bad_positions.false,
      ← c.keep_of.ensures,
      sym c.clashes.ensures ∙ c.if-clashes.false,
    )
