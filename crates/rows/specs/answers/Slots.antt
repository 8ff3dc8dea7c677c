-- SPDX-License-Identifier: BSD-2-Clause OR GPL-2.0-or-later
-- How the slots of a board are made, and the slot of a cpu.
use Rattle.std.specs.Prelude.{cond, List, ℕ, eqb}
use Rattle.layout.specs.facts.Row.{gap}
use Rattle.affinity.specs.declared.Hash.{Hash}
use Rattle.affinity.specs.answers.Mask.{mask_of}
use Rattle.affinity.specs.answers.Hash.{hash_of_mask, slot_guarded}
use Rattle.tables.specs.facts.Board.{Board, riscv}
use Rattle.cpus.specs.answers.Check.{reg_list}
use Rattle.rows.specs.declared.BoardSlots.{BoardSlots}

-- the mask of MPIDRs; 0 of hart ids, of which no bit makes a slot
abbrev pub mask_for : ℕ → List ℕ → ℕ
mask_for width regs = cond (eqb width riscv) 0 (mask_of regs)

-- of a board of a width, whose cpus have these `reg`s
unfoldable pub slots_for : ℕ → List ℕ → BoardSlots
slots_for width regs = record { width = width; hash = hash_of_mask (mask_for width regs) }

-- the slot of the cpu with this `reg`
abbrev pub slot_by : BoardSlots → ℕ → ℕ
slot_by slots reg = cond (eqb slots.width riscv) gap (slot_guarded slots.hash reg)

abbrev pub slots_of : Board → BoardSlots
slots_of b = slots_for b.width (reg_list b)

abbrev pub board_hash : Board → Hash
board_hash b = (slots_of b).hash
