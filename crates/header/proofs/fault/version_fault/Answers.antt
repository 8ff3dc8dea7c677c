-- SPDX-License-Identifier: BSD-2-Clause OR GPL-2.0-or-later
-- `version_fault` meets its contract: its tests are those of `versions_fault`, in the same order. Assumes nothing.
use Rattle.std.proofs.Common.{arith}
use Rattle.std.proofs.lemmas.Grind.{common_steps}
use Rattle.header.specs.answers.Fault.{version_fault}
use Rattle.header.proofs.fault.version_fault.Goals as goal

pub returns-then-total-lt-HEADER_BYTES : goal.returns-then-total-lt-HEADER_BYTES
unfolding version_fault
returns-then-total-lt-HEADER_BYTES c = grind (arith, common_steps)

pub returns : goal.returns
unfolding version_fault
returns c = grind (arith, common_steps)
