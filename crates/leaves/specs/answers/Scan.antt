-- SPDX-License-Identifier: BSD-2-Clause OR GPL-2.0-or-later
-- The leaves of the map: rules 18 to 26 over all records.
use Rattle.tables.specs.declared.Found.{Found}
use Rattle.std.specs.Prelude.{List, map, Bool, false, cond, ℕ, ◌*◌, take, length, eqb, Option}
use Rattle.laws.specs.facts.Told.{Fault}
use Rattle.laws.specs.facts.Limits.{max_nodes, max_cpus}
use Rattle.laws.specs.answers.Search.{any_below, list_below}
use Rattle.laws.specs.answers.Fault.{or_else, first_fault, with_second, or_number}
use Rattle.laws.specs.answers.Listed.{laid_over, fault_of_member}
use Rattle.tables.specs.declared.Tables.{Tables}
use Rattle.tables.specs.facts.Board.{Board, node_count}
use Rattle.cpus.specs.answers.Check.{phandle_list}
use Rattle.cpumap.specs.answers.Find.{map_of}
use Rattle.leaves.specs.facts.Told.{RecordCheck}
use Rattle.leaves.specs.facts.Told.{TreeScan}
use Rattle.leaves.specs.answers.Check.{cpu_property, indexed_cpu, record_check}

-- The tables, where each record's `cpu` stands, the map's record and the cpu records' phandles.
pub record Tree : Type 0 where
  pub nodes : List ℕ
  pub at : ℕ → Option Found
  pub pool : List ℕ
  pub root : ℕ
  pub phandles : List ℕ

abbrev pub tree : List ℕ → (ℕ → Option Found) → List ℕ → ℕ → List ℕ → Tree
tree nodes at pool root phandles = record { nodes = nodes; at = at; pool = pool; root = root; phandles = phandles }

abbrev pub check : Tree → ℕ → RecordCheck
check t i = record_check t.nodes t.at t.pool t.root t.phandles i

-- the tree of lent slices: their first 1,024 node records and 256 phandles, and `cpu` by an index of properties
abbrev pub lent_tree : (nodes props pool index : List ℕ) → ℕ → List ℕ → Tree
lent_tree nodes props pool index root phandles = tree (take (3 * max_nodes) nodes) (indexed_cpu props index) pool root (take max_cpus phandles)

abbrev pub tree_in : Tables → List ℕ → ℕ → List ℕ → Tree
tree_in t index root phandles = lent_tree t.nodes.now t.props.now t.pool.now index root phandles

-- whether record i is a leaf that names a cpu, and which
abbrev pub is_leaf : Tree → ℕ → Bool
is_leaf t i = (check t i).leaf

abbrev pub cpu_of : Tree → ℕ → ℕ
cpu_of t i = (check t i).cpu

-- whether a leaf below n names cpu k
unfoldable pub named_below : Tree → ℕ → ℕ → Bool
named_below t n k = any_below (λ j. cond (is_leaf t j) (eqb (cpu_of t j) k) false) n

-- rule 25: the cpu of leaf i is named by an earlier leaf
abbrev pub repeat_fault : Tree → ℕ → ℕ
repeat_fault t i = cond (is_leaf t i) (cond (named_below t i (cpu_of t i)) 25 0) 0

-- the smallest of 18 to 25 that record i breaks, or 0
unfoldable pub tree_fault : Tree → ℕ → ℕ
tree_fault t i = or_number (check t i).number (repeat_fault t i)

-- the leaves, rising
abbrev pub leaf_list : Tree → List ℕ
leaf_list t = list_below (is_leaf t) (node_count t.nodes)

-- the first of rules 18 to 25 that is broken
abbrev pub record_fault : Tree → Fault
record_fault t = with_second (λ i. (check t i).second) (first_fault (tree_fault t) (node_count t.nodes))

-- what the scan answers where it finds a fault: that, or the number of leaves where it tells nothing
abbrev pub scanned : Tree → Fault → TreeScan
scanned t f = record { fault = f; count = cond (eqb f.number 0) (length (leaf_list t)) 0 }

-- the first of rules 18 to 26 that is broken, rule 26 told of a list of cpu records
unfoldable pub leaves_fault : Tree → List ℕ → Fault
leaves_fault t records =
    or_else (record_fault t)
    (fault_of_member records (first_fault (λ k. cond (named_below t (node_count t.nodes) k) 0 26) (length records)))

-- how many leaves there are, or the first of rules 18 to 26 that is broken
abbrev pub tree_scan : Tree → List ℕ → TreeScan
tree_scan t records = scanned t (leaves_fault t records)

-- the tables of a board with a record m and the cpu records' phandles; with the map's record
abbrev pub tree_at : Board → ℕ → Tree
tree_at b m = tree b.nodes (cpu_property b.props b.pool) b.pool m (phandle_list b)

abbrev pub tree_of : Board → Tree
tree_of b = tree_at b (map_of b.nodes b.pool)

-- its leaves, and for each the index of the cpu record that it names
abbrev pub leaves_of : Board → List ℕ
leaves_of b = leaf_list (tree_of b)

abbrev pub named_of : Board → List ℕ
named_of b = map (cpu_of (tree_of b)) (leaves_of b)

-- the records before the first that breaks rules 18 to 25
abbrev pub passed : Tree → ℕ
passed t = let f = record_fault t in cond (eqb f.number 0) (node_count t.nodes) f.place

-- the lent arrays after the scan: the leaves among the records passed, and the cpus that they name
abbrev pub leaves_over : Tree → List ℕ → List ℕ
leaves_over t before = laid_over (list_below (is_leaf t) (passed t)) before

abbrev pub named_over : Tree → List ℕ → List ℕ
named_over t before = laid_over (map (cpu_of t) (list_below (is_leaf t) (passed t))) before
