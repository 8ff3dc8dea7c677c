-- SPDX-License-Identifier: BSD-2-Clause OR GPL-2.0-or-later
-- Records whose position is that of their parent.
use Rattle.std.specs.Prelude.{Bool, true, false, List, ℕ, Some, None, Option}
use Rattle.names.specs.declared.TopologyName.{TopologyName}
use Rattle.names.specs.declared.TopologyName.TheVariants.{Socket, Cluster, Core, Thread, Other}
use Rattle.cpumap.specs.answers.Path.{position_of}
use Rattle.rows.specs.declared.Placed.{Placed}

-- whether a record has its parent's position: it is neither a socket nor a cluster
abbrev pub keeps_position : Option ℕ → TopologyName → Bool
keeps_position (Some p) (Socket n) = false
keeps_position (Some p) (Cluster n) = false
keeps_position (Some p) (Core n) = true
keeps_position (Some p) (Thread n) = true
keeps_position (Some p) Other = true
keeps_position None name = false

-- record i and its position
abbrev pub placed : List ℕ → List ℕ → ℕ → Placed
placed nodes pool i = record { node = i; position = position_of nodes pool i }
