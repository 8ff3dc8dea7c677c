-- SPDX-License-Identifier: BSD-2-Clause OR GPL-2.0-or-later
-- Rules 18 to 23 at one record.
use Rattle.std.specs.Prelude.{Bool, true, false, cond, List, ℕ, ◌+◌, eqb, ltb}
use Rattle.laws.specs.answers.Fault.{or_number}
use Rattle.names.specs.declared.TopologyName.{TopologyName}
use Rattle.names.specs.declared.TopologyName.TheVariants.{Socket, Cluster, Core, Thread, Other}
use Rattle.tables.specs.answers.Tree.{is_child, is_below}
use Rattle.tables.specs.facts.Board.{parent_word}
use Rattle.cpumap.specs.answers.Path.{topology_name, cluster_path}
use Rattle.cpumap.specs.answers.Number.{kind_number, topology_number}
use Rattle.topology.specs.facts.Told.{RecordShape}
use Rattle.topology.specs.answers.Siblings.{number_fault}

-- whether the record after i is its child; in a depth-first table, whether i has children
unfoldable pub has_child : List ℕ → ℕ → Bool
has_child nodes i = is_child nodes i (i + 1)

-- whether a name may stand right under another
abbrev pub allowed_under : TopologyName → TopologyName → Bool
allowed_under (Socket n) (Socket m) = false
allowed_under (Socket n) (Cluster m) = true
allowed_under (Socket n) (Core m) = false
allowed_under (Socket n) (Thread m) = false
allowed_under (Socket n) Other = false
allowed_under (Cluster n) (Socket m) = false
allowed_under (Cluster n) (Cluster m) = true
allowed_under (Cluster n) (Core m) = true
allowed_under (Cluster n) (Thread m) = false
allowed_under (Cluster n) Other = false
allowed_under (Core n) (Socket m) = false
allowed_under (Core n) (Cluster m) = false
allowed_under (Core n) (Core m) = false
allowed_under (Core n) (Thread m) = true
allowed_under (Core n) Other = false
allowed_under (Thread n) child = false
allowed_under Other child = false

-- whether a name may stand right under the map
abbrev pub allowed_in_map : TopologyName → Bool
allowed_in_map (Socket n) = true
allowed_in_map (Cluster n) = true
allowed_in_map (Core n) = false
allowed_in_map (Thread n) = false
allowed_in_map Other = false

-- rule 20 of a name under parent p, whose first child is record p + 1
unfoldable pub kind_fault : List ℕ → List ℕ → ℕ → ℕ → TopologyName → ℕ
kind_fault nodes pool map p name =
    cond (cond (eqb p map) (allowed_in_map name) (allowed_under (topology_name nodes pool p) name))
    (cond (eqb (kind_number name) (kind_number (topology_name nodes pool (p + 1)))) 0 20)
    20

-- rule 23, and 22 of a cluster under parent p
abbrev pub group_fault : List ℕ → ℕ → ℕ
group_fault nodes i = cond (has_child nodes i) 0 23

unfoldable pub depth_fault : List ℕ → List ℕ → ℕ → ℕ
depth_fault nodes pool p = cond (ltb (cluster_path nodes pool p).depth 4) 0 22

-- a leaf of a name: a thread, or a core without children
abbrev pub is_leaf_name : List ℕ → ℕ → TopologyName → Bool
is_leaf_name nodes i (Socket n) = false
is_leaf_name nodes i (Cluster n) = false
is_leaf_name nodes i (Core n) = cond (has_child nodes i) false true
is_leaf_name nodes i (Thread n) = true
is_leaf_name nodes i Other = false

-- rules 22 and 23 of record i under parent p, by its kind
abbrev pub shape_fault : List ℕ → List ℕ → ℕ → ℕ → TopologyName → ℕ
shape_fault nodes pool p i (Socket n) = group_fault nodes i
shape_fault nodes pool p i (Cluster n) = or_number (depth_fault nodes pool p) (group_fault nodes i)
shape_fault nodes pool p i (Core n) = 0
shape_fault nodes pool p i (Thread n) = 0
shape_fault nodes pool p i Other = 19

-- the smallest of 19 to 23 that record i, below the map, breaks
unfoldable pub map_record_fault : List ℕ → List ℕ → ℕ → ℕ → TopologyName → ℕ
map_record_fault nodes pool map i name =
    cond (eqb (kind_number name) 0) 19
    (or_number (kind_fault nodes pool map (parent_word nodes i) name)
    (or_number (number_fault nodes pool (parent_word nodes i) i (topology_number name)) (shape_fault nodes pool (parent_word nodes i) i name)))

-- what a record breaks of 18 to 23, 0 where nothing, and whether it is a leaf
abbrev pub shape : ℕ → Bool → RecordShape
shape number leaf = record { number = number; leaf = leaf }

-- of record i below the map
unfoldable pub map_record_shape : List ℕ → List ℕ → ℕ → ℕ → RecordShape
map_record_shape nodes pool map i =
    let name = topology_name nodes pool i in
    cond (eqb (map_record_fault nodes pool map i name) 0) (shape 0 (is_leaf_name nodes i name)) (shape (map_record_fault nodes pool map i name) false)

-- of any record i: record 0, the map, a record below it, a record outside it
unfoldable pub record_shape : List ℕ → List ℕ → ℕ → ℕ → RecordShape
record_shape nodes pool map i =
    cond (eqb i 0) (shape 0 false)
    (cond (eqb i map) (shape (group_fault nodes i) false)
    (cond (is_below nodes i map) (map_record_shape nodes pool map i)
    (shape (cond (eqb (kind_number (topology_name nodes pool i)) 0) 0 18) false)))
