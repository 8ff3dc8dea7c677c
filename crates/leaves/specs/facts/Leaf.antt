-- SPDX-License-Identifier: BSD-2-Clause OR GPL-2.0-or-later
-- The leaves of the map (01, "The row": leaf, what a leaf names).
use Rattle.std.specs.Prelude.{◌≡◌, List, ℕ, length}
use Rattle.names.specs.facts.Kind.{Kind}
use Rattle.tables.specs.facts.Binding.{cpu_key, phandle_key}
use Rattle.tables.specs.facts.Board.{Board}
use Rattle.tables.specs.facts.Property.{HasValue}
use Rattle.cpus.specs.facts.Node.{Cpu}
use Rattle.cpumap.specs.facts.Map.{InMap, OfKind}
use Rattle.topology.specs.facts.Rules.{Childless}

-- a leaf: a thread, or a core without children
pub data Leaf (b : Board) (i : ℕ) : Type 0 where
  a_thread : InMap b i → OfKind b Kind.thread i → Leaf b i
  a_core : InMap b i → OfKind b Kind.core i → Childless b i → Leaf b i

-- leaf i names cpu record c: the four bytes of its `cpu` are those of c's `phandle`
pub record Names (b : Board) (i c : ℕ) : Type 0 where
  pub value : List ℕ
  pub four : length value ≡ 4
  pub cpu : HasValue b i cpu_key value
  pub is_cpu : Cpu b c
  pub phandle : HasValue b c phandle_key value
