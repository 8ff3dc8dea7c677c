-- SPDX-License-Identifier: BSD-2-Clause OR GPL-2.0-or-later
-- The row of a leaf.
use Rattle.std.specs.Prelude.{List, ℕ, ◌/◌, ◌%◌, ◌^◌}
use Rattle.layout.specs.declared.Row.{Row}
use Rattle.layout.specs.facts.Row.{gap}
use Rattle.names.specs.declared.TopologyName.{TopologyName}
use Rattle.names.specs.declared.TopologyName.TheVariants.{Socket, Cluster, Core, Thread, Other}
use Rattle.tables.specs.facts.Board.{parent_word}
use Rattle.cpumap.specs.answers.Number.{topology_number}
use Rattle.cpumap.specs.answers.Path.{topology_name, cluster_path, socket_number}
use Rattle.rows.specs.declared.NamedCpu.{NamedCpu}

-- the core's number: the leaf's own, or for a thread its parent's
abbrev pub core_of : TopologyName → TopologyName → ℕ
core_of (Socket n) parent = gap
core_of (Cluster n) parent = gap
core_of (Core n) parent = n
core_of (Thread n) parent = topology_number parent
core_of Other parent = gap

abbrev pub thread_of : TopologyName → ℕ
thread_of (Socket n) = gap
thread_of (Cluster n) = gap
thread_of (Core n) = gap
thread_of (Thread n) = n
thread_of Other = gap

-- the row of leaf record i and of the cpu that it names; a word holds the low 32 bits of a record number
unfoldable pub row_of : List ℕ → List ℕ → ℕ → NamedCpu → Row
row_of nodes pool i named =
    record {
      leaf = i % 2 ^ 32;
      cpu = named.cpu % 2 ^ 32;
      upper = named.reg / 2 ^ 32;
      lower = named.reg % 2 ^ 32;
      socket = socket_number nodes pool i;
      path = (cluster_path nodes pool i).numbers;
      core = core_of (topology_name nodes pool i) (topology_name nodes pool (parent_word nodes i));
      thread = thread_of (topology_name nodes pool i);
      slot = named.slot;
    }
