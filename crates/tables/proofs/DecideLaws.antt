-- SPDX-License-Identifier: BSD-2-Clause OR GPL-2.0-or-later
-- What the tests of a child and of a range decide. Assumes nothing.
use mathlib.Core.Path.{◌≡◌}
use mathlib.Core.List.{List}
use Prim.Native.Nat.{ℕ}
use Rattle.laws.proofs.DecideLaws.{Decides, decides_as, eq_decides, lt_decides, both_decides}
use Rattle.tables.specs.facts.Board.{Inside, range, node_count, parent_word}
use Rattle.tables.specs.answers.Range.{range_is}
use Rattle.tables.specs.facts.Tree.{Child}
use Rattle.tables.specs.answers.Tree.{is_child}
use Rattle.tables.proofs.LookupLaws.{range_is_true, true_range_is}

-- the test of a child
pub child_test : (nodes : List ℕ) (p i : ℕ) → Decides (is_child nodes p i) (Child nodes p i)
unfolding is_child
child_test nodes p i =
    decides_as (both_decides (lt_decides i (node_count nodes)) (both_decides (eq_decides (parent_word nodes i) p) (lt_decides p i)))
    (λ h. record { inside = h.0; word = h.1.0; earlier = h.1.1 })
    (λ c. (c.inside, (c.word, c.earlier)))

-- the test of a range, and of one that lies inside the pool
pub range_decides :
    (pool : List ℕ) (offset len : ℕ) (bytes : List ℕ) →
    Decides (range_is pool offset len bytes) (Inside pool offset len × (range pool offset len ≡ bytes))
range_decides pool offset len bytes = (range_is_true pool offset len bytes, λ h. true_range_is pool offset len bytes h.0 h.1)

pub range_test :
    (pool : List ℕ) (offset len : ℕ) (bytes : List ℕ) →
    Inside pool offset len →
    Decides (range_is pool offset len bytes) (range pool offset len ≡ bytes)
range_test pool offset len bytes inside = decides_as (range_decides pool offset len bytes) (λ h. h.1) (λ e. (inside, e))
