-- SPDX-License-Identifier: BSD-2-Clause OR GPL-2.0-or-later
-- Positions, from one record to the next.
use Rattle.layout.specs.facts.Row.{gap}
use Rattle.names.specs.declared.TopologyName.{TopologyName}
use Rattle.cpumap.specs.declared.Position.{Position}
use Rattle.cpumap.specs.answers.Path.{no_clusters, cluster_step, socket_step}

-- the position of a record without a parent
abbrev pub no_position : Position
no_position = record { socket = gap; clusters = no_clusters }

-- a record's position, from its name and its parent's position
abbrev pub position_step : TopologyName → Position → Position
position_step name above = record { socket = socket_step name above.socket; clusters = cluster_step name above.clusters }
