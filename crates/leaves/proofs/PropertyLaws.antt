-- SPDX-License-Identifier: BSD-2-Clause OR GPL-2.0-or-later
-- Where the records' `cpu` stand, by an index of properties and looked up. Assumes nothing.
use mathlib.Core.Path.{◌≡◌, fun_ext}
use mathlib.Core.List.{List}
use Prim.Native.Nat.{ℕ}
use Rattle.tables.specs.answers.Lookup.{lookup}
use Rattle.property_index.specs.declared.Key.TheVariants.{Cpu}
use Rattle.tables.specs.facts.Binding.{cpu_key}
use Rattle.property_index.specs.answers.Index.{indexed_at}
use Rattle.leaves.specs.answers.Check.{cpu_property, indexed_cpu}

-- a table that finds each record's `cpu`
pub same_cpus :
    (props pool index : List ℕ) →
    ((i : ℕ) → indexed_at props index i Cpu ≡ lookup props pool i cpu_key) →
    indexed_cpu props index ≡ cpu_property props pool
same_cpus props pool index finds = fun_ext finds
