-- SPDX-License-Identifier: BSD-2-Clause OR GPL-2.0-or-later
-- A topology name's kind and number, as numbers.
use Rattle.std.specs.Prelude.{Bool, false, cond, ℕ, eqb}
use Rattle.names.specs.declared.TopologyName.{TopologyName}
use Rattle.names.specs.declared.TopologyName.TheVariants.{Socket, Cluster, Core, Thread, Other}

-- a kind as a number, from 1; 0 for Other
abbrev pub kind_number : TopologyName → ℕ
kind_number (Socket n) = 1
kind_number (Cluster n) = 2
kind_number (Core n) = 3
kind_number (Thread n) = 4
kind_number Other = 0

abbrev pub topology_number : TopologyName → ℕ
topology_number (Socket n) = n
topology_number (Cluster n) = n
topology_number (Core n) = n
topology_number (Thread n) = n
topology_number Other = 0

-- whether a name is a topology name with the number n
abbrev pub is_numbered : ℕ → TopologyName → Bool
is_numbered n name = cond (eqb (kind_number name) 0) false (eqb (topology_number name) n)
