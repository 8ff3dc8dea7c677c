-- SPDX-License-Identifier: BSD-2-Clause OR GPL-2.0-or-later
-- `put_front` writes words over the front of an answer, word by word. Assumes nothing.
use mathlib.Core.Path.{◌≡◌}
use mathlib.Core.List.{◌++◌}
use lib.ListN.{take, drop}
use Rattle.sunderwath.proofs.front.put_front.Given as goal

abbrev pub invariant-loop-i : goal.invariant-loop-i
invariant-loop-i l = l.answer ≡ take l.i l.words ++ drop l.i l.initial.answer
