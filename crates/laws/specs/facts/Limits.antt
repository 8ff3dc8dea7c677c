-- SPDX-License-Identifier: BSD-2-Clause OR GPL-2.0-or-later
-- The limits of the rules (01, "The tables", "Numbers told").
use Rattle.std.specs.Prelude.{ℕ}

-- the most node records of a board, of which there is at least one
abbrev pub max_nodes : ℕ
max_nodes = 1024

-- the most property records of a board
abbrev pub max_properties : ℕ
max_properties = 4096

-- the most bytes of a board's pool
abbrev pub max_pool : ℕ
max_pool = 65536

-- the most bytes of a node's name, and of a property's name; each has at least one
abbrev pub max_node_name : ℕ
max_node_name = 64

abbrev pub max_property_name : ℕ
max_property_name = 31

-- the parent word of record 0
abbrev pub no_parent : ℕ
no_parent = 0xFFFFFFFF

-- the second place where no property is told of
abbrev pub no_property : ℕ
no_property = 0xFFFFFFFF

-- the most cpu records of a board, and MPIDRs of a list
abbrev pub max_cpus : ℕ
max_cpus = 256

-- the most clusters above a cluster
abbrev pub max_clusters_above : ℕ
max_clusters_above = 3

-- the most bits of the hash of a board whose slots have a table (02, W5)
abbrev pub max_table_bits : ℕ
max_table_bits = 12

-- the most bytes of a flattened devicetree
abbrev pub max_blob : ℕ
max_blob = 65536
