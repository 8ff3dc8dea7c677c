-- SPDX-License-Identifier: BSD-2-Clause OR GPL-2.0-or-later
-- Whether a range of the pool holds given bytes.
use Rattle.std.specs.Prelude.{Bool, false, cond, List, ℕ, ◌+◌, leb, length}
use Rattle.laws.specs.answers.Same.{same_list}
use Rattle.tables.specs.facts.Board.{range}

-- whether a range lies inside the pool and holds given bytes
unfoldable pub range_is : List ℕ → ℕ → ℕ → List ℕ → Bool
range_is pool offset len bytes = cond (leb (offset + len) (length pool)) (same_list (range pool offset len) bytes) false
