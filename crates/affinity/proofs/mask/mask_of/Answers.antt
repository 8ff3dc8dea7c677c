-- SPDX-License-Identifier: BSD-2-Clause OR GPL-2.0-or-later
-- `mask_of` is the mask that `gather` makes. Assumes nothing.
use Rattle.affinity.specs.steps.Mask.{gathered}
use Rattle.affinity.proofs.MaskLaws.{mask_holds}
use Rattle.affinity.proofs.mask.mask_of.Goals as goal

pub returns : goal.returns
unfolding gathered
returns c = record { answer = rw c.gather.ensures; mask = rw c.gather.ensures (mask_holds _) }
