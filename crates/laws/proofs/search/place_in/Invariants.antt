-- SPDX-License-Identifier: BSD-2-Clause OR GPL-2.0-or-later
-- `place_in` meets its contract: no place before the next one has the number, by fours and then one by one. Assumes nothing.
use mathlib.Core.Path.{◌≡◌}
use Prim.Native.Nat.{◌*◌}
use lib.Dec.{eqb}
use lib.ListN.{get_or}
use Rattle.laws.specs.answers.Search.{lowest}
use Rattle.laws.proofs.search.place_in.Given as goal

abbrev pub invariant-loop-k : goal.invariant-loop-k
invariant-loop-k l = lowest (λ j. eqb (get_or l.list j 0) l.number) (4 * l.k) ≡ 4 * l.k

abbrev pub invariant-loop-i : goal.invariant-loop-i
invariant-loop-i l = lowest (λ j. eqb (get_or l.list j 0) l.number) l.i ≡ l.i
