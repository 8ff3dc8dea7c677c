-- SPDX-License-Identifier: BSD-2-Clause OR GPL-2.0-or-later
-- `slots_for` hashes the mask that the board has. Assumes nothing.
use Rattle.rows.specs.answers.Slots.{slots_for}
use Rattle.rows.proofs.slots.slots_for.Goals as goal

pub returns : goal.returns
unfolding slots_for
returns c = rw (c.hash_of_mask.ensures, c.mask_for.ensures)
