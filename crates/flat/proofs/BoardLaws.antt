-- SPDX-License-Identifier: BSD-2-Clause OR GPL-2.0-or-later
-- Of a board made of a blob's records only the width, the counts of the records, the lengths of names and repeated properties are left to be told.
-- Assumes nothing.
use mathlib.Core.Path.{◌≡◌}
use mathlib.Core.Logic.{⊎_elim}
use mathlib.Core.List.{List}
use Prim.Native.Nat.{ℕ, ◌*◌, ◌≤◌}
use native.Mathlib.Omega.{arith}
use lib.ListN.{length}
use Rattle.laws.specs.facts.Limits.{no_parent, max_blob}
use Rattle.wellformed.specs.facts.Rules.{TableRule}
use Rattle.stream.specs.facts.Tree.{Nodes, size_of, node_words}
use Rattle.flat.specs.facts.Rules.{Cpus}
use Rattle.flat.specs.facts.Tables.{board_of, LeftToTell, OnlyLeft}
use Rattle.flat.proofs.WithinLaws.{TreeWithin, cpus_within}
use Rattle.flat.proofs.WordLaws.{words_length, node_name, props_whole, prop_sound}
use Rattle.flat.proofs.OrderLaws.{TreeOrder, tree_order}

module _ (blob : List ℕ) (cpus : Nodes) (small : length blob ≤ max_blob) (found : Cpus blob cpus) (width : ℕ) where
  abbrev nodes : List ℕ
  nodes = node_words no_parent 0 cpus

  long : length nodes ≡ 3 * size_of cpus
  long = words_length no_parent 0 cpus

  within : TreeWithin blob cpus
  within = (cpus_within blob found).1

  order : TreeOrder nodes
  order = tree_order (cpus_within blob found).0

  left : {n p : ℕ} → TableRule (board_of width blob cpus) n p → LeftToTell (board_of width blob cpus) n p
  left (TableRule.board_width none) = LeftToTell.board_width none
  left (TableRule.node_table_part part) = absurd (part (omega (arith, long)))
  left (TableRule.node_table_empty none) = absurd (omega (arith, order.some))
  left (TableRule.node_table_many many) = LeftToTell.node_table_many many
  left (TableRule.property_table_part part) = absurd (part (props_whole blob cpus within))
  left (TableRule.property_table_many many) = LeftToTell.property_table_many many
  left (TableRule.pool_size large) = absurd (omega arith)
  left (TableRule.node_name_length i lt e) = LeftToTell.node_name_length lt e
  left (TableRule.node_name_range i lt out) = absurd (out (node_name blob cpus within no_parent i lt))
  left (TableRule.node_parent_root lt other) = absurd (other order.top)
  left (TableRule.node_parent_order i lt other apart) = absurd (⊎_elim other apart (order.depth i lt))
  left (TableRule.property_node k lt out) = absurd (omega (arith, long, (prop_sound blob cpus within k lt).node))
  left (TableRule.property_name_length k lt e) = LeftToTell.property_name_length lt e
  left (TableRule.property_name_range k lt out) = absurd (out (prop_sound blob cpus within k lt).key)
  left (TableRule.property_value_range k lt out) = absurd (out (prop_sound blob cpus within k lt).value)
  left (TableRule.duplicate_property j k lt in_table node name) = LeftToTell.duplicate_property lt in_table node name

  pub only_left : OnlyLeft (board_of width blob cpus)
  only_left n p = left
