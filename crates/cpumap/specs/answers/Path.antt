-- SPDX-License-Identifier: BSD-2-Clause OR GPL-2.0-or-later
-- What a record's ancestors say: its socket and its clusters, outermost first.
use Rattle.std.specs.Prelude.{cond, List, [], ◌∷◌, ℕ, ◌+◌, ltb, leb, length, set}
use Rattle.layout.specs.facts.Row.{gap}
use Rattle.names.specs.declared.TopologyName.{TopologyName}
use Rattle.names.specs.declared.TopologyName.TheVariants.{Other, Socket, Cluster, Core, Thread}
use Rattle.names.specs.answers.Name.{name_of}
use Rattle.tables.specs.facts.Board.{range, node_count, name_offset, name_length}
use Rattle.tables.specs.answers.Tree.{climb}
use Rattle.cpumap.specs.declared.ClusterPath.{ClusterPath}
use Rattle.cpumap.specs.declared.Position.{Position}

-- what record i's name says; Other where it is no record or its name leaves the pool
unfoldable pub topology_name : List ℕ → List ℕ → ℕ → TopologyName
topology_name nodes pool i =
    cond (ltb i (node_count nodes))
    (cond (leb (name_offset nodes i + name_length nodes i) (length pool)) (name_of (range pool (name_offset nodes i) (name_length nodes i))) Other)
    Other

abbrev pub no_clusters : ClusterPath
no_clusters = record { numbers = gap ∷ gap ∷ gap ∷ gap ∷ []; depth = 0 }

-- a path with one number more, or as it is where four are used
unfoldable pub extend : ClusterPath → ℕ → ClusterPath
extend p n = cond (ltb p.depth 4) (record { numbers = set p.numbers p.depth n; depth = p.depth + 1 }) p

abbrev pub cluster_step : TopologyName → ClusterPath → ClusterPath
cluster_step (Socket n) path = path
cluster_step (Cluster n) path = extend path n
cluster_step (Core n) path = path
cluster_step (Thread n) path = path
cluster_step Other path = path

-- the clusters among record i and its ancestors
unfoldable pub cluster_path : List ℕ → List ℕ → ℕ → ClusterPath
cluster_path nodes pool i = climb nodes no_clusters (λ j path. cluster_step (topology_name nodes pool j) path) i

abbrev pub socket_step : TopologyName → ℕ → ℕ
socket_step (Socket n) socket = n
socket_step (Cluster n) socket = socket
socket_step (Core n) socket = socket
socket_step (Thread n) socket = socket
socket_step Other socket = socket

-- the number of the socket among record i and its ancestors, or GAP
unfoldable pub socket_number : List ℕ → List ℕ → ℕ → ℕ
socket_number nodes pool i = climb nodes gap (λ j socket. socket_step (topology_name nodes pool j) socket) i

-- the position of record i: its socket and its clusters
unfoldable pub position_of : List ℕ → List ℕ → ℕ → Position
position_of nodes pool i = record { socket = socket_number nodes pool i; clusters = cluster_path nodes pool i }
