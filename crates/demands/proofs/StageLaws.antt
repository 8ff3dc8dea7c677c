-- SPDX-License-Identifier: BSD-2-Clause OR GPL-2.0-or-later
-- The broken rules layer by layer, in the order of their stages. Assumes nothing.
use mathlib.Core.Logic.{inl, inr}
use mathlib.Core.List.{List}
use Prim.Native.Nat.{ℕ, ◌*◌, ◌<◌}
use native.Mathlib.Omega.{arith}
use lib.ListN.{length}
use Rattle.laws.specs.facts.Listing.{Listing}
use Rattle.laws.proofs.RuleStageLaws.{Split}
use Rattle.layout.specs.facts.Row.{row_size}
use Rattle.tables.specs.facts.Board.{Board}
use Rattle.wellformed.specs.facts.Order.{stage}
use Rattle.wellformed.specs.facts.Rules.{TableRule}
use Rattle.wellformed.proofs.RuleLaws.{rule_staged}
use Rattle.cpus.specs.facts.Node.{Cpu}
use Rattle.cpus.specs.facts.Rules.{CpuRule, PhandleRule}
use Rattle.cpus.proofs.RuleMeans as cpus
use Rattle.cpumap.specs.facts.Rules.{MapRule}
use Rattle.cpumap.proofs.MapTells.{map_staged}
use Rattle.leaves.proofs.RuleCases.{TreeRule, tree_staged}
use Rattle.demands.specs.facts.Rules.{Breaks}

module _ (b : Board) (room : ℕ) where
  -- rule 27
  pub data RoomRule : ℕ → ℕ → Type 0 where
    no_room : (cpus : List ℕ) → Listing (Cpu b) cpus → room < row_size * length cpus → RoomRule 27 0

  -- the layers, and the stages from which the next begins
  abbrev pub Layers : ℕ → ℕ → Type 0
  Layers =
      Split stage (stage 9) (TableRule b)
      (Split stage (stage 15) (CpuRule b)
      (Split stage (stage 17) (MapRule b) (Split stage (stage 18) (PhandleRule b) (Split stage (stage 27) (TreeRule b) RoomRule))))

module _ {b : Board} {room : ℕ} where
  pub from_layers : {n p : ℕ} → Layers b room n p → Breaks b room n p
  from_layers (Split.early r _) = Breaks.tables r
  from_layers (Split.late (Split.early r _) _) = Breaks.cpus r
  from_layers (Split.late (Split.late (Split.early r _) _) _) = Breaks.map r
  from_layers (Split.late (Split.late (Split.late (Split.early r _) _) _) _) = Breaks.phandles r
  from_layers (Split.late (Split.late (Split.late (Split.late (Split.early (inl r) _) _) _) _) _) = Breaks.topology r
  from_layers (Split.late (Split.late (Split.late (Split.late (Split.early (inr r) _) _) _) _) _) = Breaks.leaves r
  from_layers (Split.late (Split.late (Split.late (Split.late (Split.late (RoomRule.no_room cpus l lt) _) _) _) _) _) = Breaks.row_space cpus l lt

  tree_layer : {n p : ℕ} → TreeRule b n p → Layers b room n p
  tree_layer r =
      let t = tree_staged r in
      let from = t.0 in
      Split.late (Split.late (Split.late (Split.late (Split.early r t.1) from) (omega arith)) (omega arith)) (omega arith)

  pub to_layers : {n p : ℕ} → Breaks b room n p → Layers b room n p
  to_layers (Breaks.tables r) = Split.early r (rule_staged b r)
  to_layers (Breaks.cpus r) = let t = cpus.cpu_staged (cpus.staged r) in Split.late (Split.early r t.1) t.0
  to_layers (Breaks.map r) = let t = map_staged r in Split.late (Split.late (Split.early r t.1) t.0) (omega (arith, t.0))
  to_layers (Breaks.phandles r) =
      let t = cpus.phandle_staged r in
      Split.late (Split.late (Split.late (Split.early r t.1) t.0) (omega (arith, t.0))) (omega (arith, t.0))
  to_layers (Breaks.topology r) = tree_layer (inl r)
  to_layers (Breaks.leaves r) = tree_layer (inr r)
  to_layers (Breaks.row_space cpus l lt) =
      Split.late
      (Split.late (Split.late (Split.late (Split.late (RoomRule.no_room cpus l lt) (omega arith)) (omega arith)) (omega arith)) (omega arith))
      (omega arith)

  -- every rule is of a stage before that of 38
  pub breaks_staged : {n p : ℕ} → Breaks b room n p → stage n < stage 38
  breaks_staged (Breaks.tables r) = omega (arith, rule_staged b r)
  breaks_staged (Breaks.cpus r) = omega (arith, (cpus.cpu_staged (cpus.staged r)).1)
  breaks_staged (Breaks.map r) = omega (arith, (map_staged r).1)
  breaks_staged (Breaks.phandles r) = omega (arith, (cpus.phandle_staged r).1)
  breaks_staged (Breaks.topology r) = omega (arith, (tree_staged (inl r)).1)
  breaks_staged (Breaks.leaves r) = omega (arith, (tree_staged (inr r)).1)
  breaks_staged (Breaks.row_space _ _ _) = omega arith
