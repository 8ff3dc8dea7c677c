-- SPDX-License-Identifier: BSD-2-Clause OR GPL-2.0-or-later
-- `list_cpus` meets its contract: so many of the records passed are cpu records, and they are listed. Assumes nothing.
use mathlib.Core.Path.{◌≡◌, refl, sym, ap, ◌∙◌}
use Prim.Native.Nat.{ℕ, ◌+◌, min}
use native.Mathlib.Omega.{arith}
use Rattle.laws.specs.answers.Listed.{laid_over}
use Rattle.laws.specs.answers.Search.{count_below, list_below}
use Rattle.laws.proofs.OverLaws.{over_none, listed_yes, listed_no}
use Rattle.laws.proofs.SearchLaws.{count_yes, count_no, count_le}
use Rattle.tables.specs.facts.Board.{node_count}
use Rattle.laws.specs.facts.Limits.{max_nodes}
use Rattle.cpus.specs.answers.Check.{is_cpu}
use Rattle.cpus.proofs.root.list_cpus.Goals as goal
use Rattle.cpus.proofs.root.list_cpus.Goals.{then-is_cpu, else-is_cpu}

pub loop-i-init : goal.loop-i-init
unfolding count_below list_below
loop-i-init c = record { count = refl; listed = sym (over_none _) }

pub overflow_add-count : goal.overflow_add-count
overflow_add-count c =
    let t = c.args.tables.now in
    omega (arith, c.loop-i.invariant.count, count_le (is_cpu t.nodes.now t.pool.now) c.loop-i.i)

pub loop-i-preserved : goal.loop-i-preserved
loop-i-preserved c =
    let before = c.loop-i.invariant in
    elim c.if-is_cpu.branch [
      | then-is_cpu w ↦
          let yes = sym c.is_cpu.ensures ∙ w.if-is_cpu.true in
          record {
            count = w.count-is ∙ ap (λ (n : ℕ). n + 1) before.count ∙ sym (count_yes _ _ yes);
            listed = w.records-is ∙ w.put_record.ensures ∙ listed_yes _ _ _ before.count before.listed yes;
          }
      | else-is_cpu w ↦
          let no = sym c.is_cpu.ensures ∙ w.if-is_cpu.false in
          record {
            count = w.count-is ∙ before.count ∙ sym (count_no _ _ no);
            listed = w.records-is ∙ listed_no _ _ _ before.count before.listed no;
          }
    ]

pub returns : goal.returns
returns c =
    let t = c.args.tables.now in
    let done = c.loop-i.invariant in
    let end : c.loop-i.i ≡ min (node_count t.nodes.now) max_nodes = omega (arith, c.min-n.ensures) in
    record {
      count = done.count ∙ ap (count_below (is_cpu t.nodes.now t.pool.now)) end;
      records = done.listed ∙ ap (λ (k : ℕ). laid_over (list_below (is_cpu t.nodes.now t.pool.now) k) c.args.records.now) end;
    }
