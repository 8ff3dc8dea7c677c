-- SPDX-License-Identifier: BSD-2-Clause OR GPL-2.0-or-later
-- Rules 18 to 24 at one record, and the cpu that a leaf names.
use Rattle.tables.specs.declared.Found.{Found}
use Rattle.std.specs.Prelude.{List, false, true, cond, ℕ, length, ltb, Option, None, Some}
use Rattle.laws.specs.facts.Limits.{no_property}
use Rattle.laws.specs.answers.Search.{place_in}
use Rattle.tables.specs.facts.Binding.{cpu_key}
use Rattle.tables.specs.answers.Lookup.{lookup, record_of}
use Rattle.property_index.specs.declared.Key.TheVariants.{Cpu}
use Rattle.property_index.specs.answers.Index.{indexed_at}
use Rattle.cpus.specs.answers.Cell.{cell_in}
use Rattle.topology.specs.answers.Check.{record_shape}
use Rattle.leaves.specs.facts.Told.{RecordCheck}

-- the index of the phandle that a leaf's `cpu` holds, or their number where it holds none
abbrev pub index_of : List ℕ → Option ℕ → ℕ
index_of phandles (Some w) = place_in phandles w
index_of phandles None = length phandles

-- the same of leaf i, by where each record's `cpu` stands
unfoldable pub leaf_cpu : (ℕ → Option Found) → List ℕ → List ℕ → ℕ → ℕ
leaf_cpu at pool phandles i = index_of phandles (cell_in pool (at i))

-- where each record's `cpu` stands, looked up
abbrev pub cpu_property : List ℕ → List ℕ → ℕ → Option Found
cpu_property props pool i = lookup props pool i cpu_key

-- the same, by an index of properties
abbrev pub indexed_cpu : List ℕ → List ℕ → ℕ → Option Found
indexed_cpu props index i = indexed_at props index i Cpu

-- no leaf: what a record breaks is told of no property
abbrev pub no_leaf : ℕ → ℕ → RecordCheck
no_leaf number none = record { number = number; second = no_property; leaf = false; cpu = none }

-- a leaf and the cpu that it names; rule 24, told of its `cpu`
abbrev pub leaf_check : Option Found → ℕ → ℕ → RecordCheck
leaf_check found none k =
    cond (ltb k none) (record { number = 0; second = no_property; leaf = true; cpu = k })
    (record { number = 24; second = record_of found; leaf = false; cpu = none })

-- what record i breaks of 18 to 24, and the cpu that it names where it is a leaf
unfoldable pub record_check : List ℕ → (ℕ → Option Found) → List ℕ → ℕ → List ℕ → ℕ → RecordCheck
record_check nodes at pool map phandles i =
    let s = record_shape nodes pool map i in
    cond s.leaf (leaf_check (at i) (length phandles) (leaf_cpu at pool phandles i)) (no_leaf s.number (length phandles))
