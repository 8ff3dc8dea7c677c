-- SPDX-License-Identifier: BSD-2-Clause OR GPL-2.0-or-later
-- What the two passes of the scan answer: over the records, and over the cpu records by their index.
use Rattle.std.specs.Prelude.{Bool, false, cond, List, ◌≡◌, ℕ, get_or, length}
use Rattle.laws.specs.facts.Limits.{max_cpus}
use Rattle.leaves.specs.facts.Told.{TreeScan}
use Rattle.leaves.specs.answers.Scan.{Tree, named_below, record_fault, scanned, passed, leaves_over, named_over}

-- whether a table of marks has cpu k marked
abbrev pub is_marked : List Bool → ℕ → Bool
is_marked marks k = get_or marks k false

-- the table of marks for the leaves below n: those of the cpus that one of them names
pub record Marked (t : Tree) (n : ℕ) (marks : List Bool) : Type 0 where
  pub size : length marks ≡ max_cpus
  pub each : (k : ℕ) → is_marked marks k ≡ named_below t n k

-- what the pass over the records leaves in the lent arrays: the cpus marked, the leaves, and the cpus that they name
pub record PassArrays (t : Tree) (leaves₀ named₀ : List ℕ) (marks : List Bool) (leaves named : List ℕ) : Type 0 where
  pub marks_left : Marked t (passed t) marks
  pub leaves_left : leaves ≡ leaves_over t leaves₀
  pub named_left : named ≡ named_over t named₀

-- how many leaves there are, or the first of rules 18 to 25 that is broken
unfoldable pub leaf_scan : Tree → TreeScan
leaf_scan t = scanned t (record_fault t)

-- rule 26 of the cpu with index k: it is not marked
unfoldable pub unmarked_fault : List Bool → ℕ → ℕ
unmarked_fault marks k = cond (is_marked marks k) 0 26
