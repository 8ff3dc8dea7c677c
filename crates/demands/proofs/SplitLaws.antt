-- SPDX-License-Identifier: BSD-2-Clause OR GPL-2.0-or-later
-- The split of 01's rule 9: some rule was broken before it exactly where one is after it. Assumes nothing.
use mathlib.Core.Path.{ap}
use mathlib.Core.Logic.{inl, inr, ⊎_elim}
use Prim.Native.Nat.{ℕ, ◌<◌}
use native.Mathlib.Omega.{arith}
use Rattle.tables.specs.facts.Board.{Board}
use Rattle.wellformed.specs.facts.Order.{stage}
use Rattle.wellformed.proofs.RuleLaws.{rule_staged}
use Rattle.cpus.specs.facts.Rules.{CpuRule, CpusNode}
use Rattle.cpus.proofs.RuleMeans.{phandle_staged, nine}
use Rattle.cpumap.proofs.MapTells.{map_staged}
use Rattle.leaves.proofs.RuleCases.{tree_staged}
use Rattle.demands.specs.facts.Rules.{Breaks, BreaksUnsplit}

module _ {b : Board} {room : ℕ} where
  -- some rule is broken before the split exactly where one is after it
  pub from_unsplit : ((n p : ℕ) → Breaks b room n p → ⊥) → (n p : ℕ) → BreaksUnsplit b room n p → ⊥
  from_unsplit none n p (BreaksUnsplit.cpus_node c) =
      ⊎_elim (λ r. none 9 0 (Breaks.cpus r)) (⊎_elim (λ r. none 36 0 (Breaks.cpus r)) (λ r. none 37 0 (Breaks.cpus r))) (nine.0 c)
  from_unsplit none n p (BreaksUnsplit.other r _ _ _) = none n p r

  module _ (none : (n p : ℕ) → BreaksUnsplit b room n p → ⊥) where
    -- a rule of an earlier or a later stage is the same
    early : {n p : ℕ} → Breaks b room n p → stage n < stage 9 → ⊥
    early r lt =
        none _ _ (BreaksUnsplit.other r (λ e. omega (arith, ap stage e)) (λ e. omega (arith, ap stage e)) (λ e. omega (arith, ap stage e)))

    late : {n p : ℕ} → Breaks b room n p → stage 37 < stage n → ⊥
    late r lt =
        none _ _ (BreaksUnsplit.other r (λ e. omega (arith, ap stage e)) (λ e. omega (arith, ap stage e)) (λ e. omega (arith, ap stage e)))

    of_cpus : {n p : ℕ} → CpuRule b n p → ⊥
    of_cpus (CpuRule.cpus_node_name f) = none 9 0 (BreaksUnsplit.cpus_node (CpusNode.name f))
    of_cpus (CpuRule.cpus_address_cells f) = none 9 0 (BreaksUnsplit.cpus_node (CpusNode.address_cells f))
    of_cpus (CpuRule.cpus_size_cells f) = none 9 0 (BreaksUnsplit.cpus_node (CpusNode.size_cells f))
    of_cpus (CpuRule.cpu_count_none f) = late (Breaks.cpus (CpuRule.cpu_count_none f)) (omega arith)
    of_cpus (CpuRule.cpu_count_many l h lt) = late (Breaks.cpus (CpuRule.cpu_count_many l h lt)) (omega arith)
    of_cpus (CpuRule.cpu_device_type i c f) = late (Breaks.cpus (CpuRule.cpu_device_type i c f)) (omega arith)
    of_cpus (CpuRule.cpu_reg i c f) = late (Breaks.cpus (CpuRule.cpu_reg i c f)) (omega arith)
    of_cpus (CpuRule.duplicate_cpu_reg i j v c d lt g h) = late (Breaks.cpus (CpuRule.duplicate_cpu_reg i j v c d lt g h)) (omega arith)

    pub to_unsplit : (n p : ℕ) → Breaks b room n p → ⊥
    to_unsplit n p (Breaks.tables r) = early (Breaks.tables r) (rule_staged b r)
    to_unsplit n p (Breaks.cpus r) = of_cpus r
    to_unsplit n p (Breaks.map r) = late (Breaks.map r) (omega (arith, (map_staged r).0))
    to_unsplit n p (Breaks.phandles r) = late (Breaks.phandles r) (omega (arith, (phandle_staged r).0))
    to_unsplit n p (Breaks.topology r) = late (Breaks.topology r) (omega (arith, (tree_staged {b = b} (inl r)).0))
    to_unsplit n p (Breaks.leaves r) = late (Breaks.leaves r) (omega (arith, (tree_staged {b = b} (inr r)).0))
    to_unsplit n p (Breaks.row_space cpus l lt) = late (Breaks.row_space cpus l lt) (omega arith)
