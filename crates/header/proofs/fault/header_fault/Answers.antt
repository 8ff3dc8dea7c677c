-- SPDX-License-Identifier: BSD-2-Clause OR GPL-2.0-or-later
-- `header_fault` meets its contract: its tests are those of the definition, in the same order. Assumes nothing.
use Rattle.std.proofs.Common.{arith}
use Rattle.std.proofs.lemmas.Grind.{common_steps}
use Rattle.header.specs.answers.Fault.{header_fault}
use Rattle.header.proofs.fault.header_fault.Goals as goal

pub returns-then-blob-lt-HEADER_BYTES : goal.returns-then-blob-lt-HEADER_BYTES
unfolding header_fault
returns-then-blob-lt-HEADER_BYTES c = grind (arith, common_steps)

pub returns : goal.returns
unfolding header_fault
returns c = grind (arith, common_steps, c.version_fault.ensures)
