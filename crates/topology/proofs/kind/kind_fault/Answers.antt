-- SPDX-License-Identifier: BSD-2-Clause OR GPL-2.0-or-later
-- `kind_fault` meets its contract: the parent allows the kind, and the first child has it. Assumes nothing.
use mathlib.Core.Path.{sym, ◌∙◌}
use borrow.Author.Tests.{eq-eqb, ne_eqb}
use Rattle.topology.specs.answers.Check.{kind_fault}
use Rattle.topology.proofs.kind.kind_fault.Goals as goal
use Rattle.topology.proofs.kind.kind_fault.Goals.{else-is_allowed-via-then-is_allowed+else-kind_number, else-is_allowed-via-else-is_allowed}

pub returns-then-kind_number : goal.returns-then-kind_number
unfolding kind_fault
returns-then-kind_number c =
    rw (
      sym c.is_allowed.ensures ∙ c.if-is_allowed.true,
      ← c.topology_name.ensures,
      eq-eqb _ _ (sym c.kind_number.ensures ∙ c.if-kind_number.true ∙ c.kind_number-then-is_allowed.ensures),
    )

pub returns : goal.returns
unfolding kind_fault
returns c =
    elim c.else-is_allowed.branch [
      | else-is_allowed-via-then-is_allowed+else-kind_number w ↦
          rw (
            sym c.is_allowed.ensures ∙ w.if-is_allowed.true,
            ← w.topology_name.ensures,
            ne_eqb _ _ (λ e. w.if-kind_number.false (w.kind_number.ensures ∙ e ∙ sym w.kind_number-then-is_allowed.ensures)),
          )
      | else-is_allowed-via-else-is_allowed w ↦ rw (sym c.is_allowed.ensures ∙ w.if-is_allowed.false)
    ]
