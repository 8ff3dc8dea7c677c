-- SPDX-License-Identifier: BSD-2-Clause OR GPL-2.0-or-later
-- `number_of` meets its contract: the value so far and the digits left give the number. Assumes nothing.
use mathlib.Core.Path.{◌≡◌}
use Prim.Native.Nat.{◌≤◌, ◌<◌, ◌^◌}
use lib.ListN.{length, drop}
use Rattle.names.specs.answers.Name.{number_of, digits_from}
use Rattle.names.proofs.number_of.Given as goal

abbrev pub invariant-loop-digit : goal.invariant-loop-digit
invariant-loop-digit l = (length l.digits ≤ 4)
    × (l.value < 10 ^ l.digit-index)
    × (number_of l.digits ≡ digits_from l.value (drop l.digit-index l.digits))
