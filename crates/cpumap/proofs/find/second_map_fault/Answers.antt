-- SPDX-License-Identifier: BSD-2-Clause OR GPL-2.0-or-later
-- `second_map_fault` meets its contract. Assumes nothing.
use mathlib.Core.Path.{sym, ◌∙◌}
use borrow.Author.Tests.{eq-eqb, ne_eqb}
use Rattle.cpumap.specs.answers.Find.{second_map_fault}
use Rattle.cpumap.proofs.find.second_map_fault.Goals as goal
use Rattle.cpumap.proofs.find.second_map_fault.Goals.{else-is_map_name-via-then-is_map_name+else-i-map, else-is_map_name-via-else-is_map_name}

pub returns-then-i-map : goal.returns-then-i-map
unfolding second_map_fault
returns-then-i-map c = rw (sym c.is_map_name.ensures ∙ c.if-is_map_name.true, ne_eqb _ _ (λ e. c.if-i-map.true (e ∙ sym c.requires)))

pub returns : goal.returns
unfolding second_map_fault
returns c =
    elim c.else-is_map_name.branch [
      | else-is_map_name-via-then-is_map_name+else-i-map w ↦
          rw (sym c.is_map_name.ensures ∙ w.if-is_map_name.true, eq-eqb _ _ (w.if-i-map.false ∙ c.requires))
      | else-is_map_name-via-else-is_map_name w ↦ rw (sym c.is_map_name.ensures ∙ w.if-is_map_name.false)
    ]
