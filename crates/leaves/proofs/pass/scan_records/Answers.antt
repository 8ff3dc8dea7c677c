-- SPDX-License-Identifier: BSD-2-Clause OR GPL-2.0-or-later
-- `scan_records` meets its contract: the lent arrays hold what is gathered before record i, and a leaf that breaks no rule has room in them.
-- Assumes nothing.
use mathlib.Core.Path.{◌≡◌, sym, ◌∙◌}
use mathlib.Core.Bool.{true, false}
use Prim.Native.Nat.{◌<◌}
use native.Mathlib.Omega.{arith}
use Rattle.std.proofs.lemmas.Result.{err_from_is_err_and}
use Rattle.laws.specs.facts.Limits.{no_property}
use Rattle.leaves.specs.answers.Check.{indexed_cpu}
use Rattle.leaves.specs.answers.Scan.{Tree, tree, check}
use Rattle.leaves.specs.steps.Pass.{is_marked}
use Rattle.leaves.proofs.RecordPassLaws.{gathered_none, refused_scan, refused_left, repeated_scan, repeated_left, all_scan, all_left}
use Rattle.leaves.proofs.RecordPassLaws.{gather_keep, gather_room, cpu_room, gather_push}
use Rattle.leaves.proofs.pass.scan_records.Goals as goal
use Rattle.leaves.proofs.pass.scan_records.Goals.{Else-is_marked}

-- the tree of what the function takes
abbrev tree_in : Else-is_marked → Tree
tree_in c =
    let a = c.args in
    tree a.tables.now.nodes.now (indexed_cpu a.tables.now.props.now a.index.now) a.tables.now.pool.now a.map a.phandles.now

-- record i is a leaf that names the cpu
leaf : (c : Else-is_marked) → record { number = 0; second = no_property; leaf = true; cpu = c.in-Some.cpu } ≡ check (tree_in c) c.loop-i.i
leaf c = rw c.in-Some.is at c.in_ok-cpu.ensures.answer

-- .. that is not marked
unmarked : (c : Else-is_marked) → is_marked c.loop-i.marks c.in-Some.cpu ≡ false
unmarked c = sym c.is_marked.ensures ∙ c.if-is_marked.false

-- it has a place in the lists, and its cpu in the marks
room : (c : Else-is_marked) → c.loop-i.count < 256
room c = gather_room _ _ _ c.loop-i.invariant (leaf c) c.requires.few.0 (unmarked c)

place : (c : Else-is_marked) → c.in-Some.cpu < 256
place c = cpu_room _ _ _ c.loop-i.invariant (leaf c) c.requires.few.0 (unmarked c)

pub loop-i-init : goal.loop-i-init
loop-i-init c = gathered_none _ _ _ c.requires.marks

pub returns-in_err-cpu-clause-answer : goal.returns-in_err-cpu-clause-answer
returns-in_err-cpu-clause-answer c =
    let told = c.in_err-cpu.ensures in
    let p = err_from_is_err_and c.from_residual.result c.from_residual.ensures.1 in
    rw (p.1, p.2) (refused_scan _ _ _ c.loop-i.invariant c.in_err-cpu.field-0.0 c.loop-i-test.true told.answer told.place)

pub returns-in_err-cpu-clause-arrays : goal.returns-in_err-cpu-clause-arrays
returns-in_err-cpu-clause-arrays c = refused_left _ _ _ c.loop-i.invariant c.in_err-cpu.field-0.0 c.loop-i-test.true c.in_err-cpu.ensures.answer

pub loop-i-preserved-in_default : goal.loop-i-preserved-in_default
loop-i-preserved-in_default c = gather_keep _ _ _ c.loop-i.invariant (rw c.in_default.is at c.in_ok-cpu.ensures.answer)

pub returns-then-is_marked-clause-answer : goal.returns-then-is_marked-clause-answer
returns-then-is_marked-clause-answer c =
    let named = rw c.in-Some.is at c.in_ok-cpu.ensures.answer in
    rw c.at.ensures (repeated_scan _ _ _ c.loop-i.invariant named c.loop-i-test.true (sym c.is_marked.ensures ∙ c.if-is_marked.true))

pub returns-then-is_marked-clause-arrays : goal.returns-then-is_marked-clause-arrays
returns-then-is_marked-clause-arrays c =
    let named = rw c.in-Some.is at c.in_ok-cpu.ensures.answer in
    repeated_left _ _ _ c.loop-i.invariant named c.loop-i-test.true (sym c.is_marked.ensures ∙ c.if-is_marked.true)

pub offset_bounds-leaves-count : goal.offset_bounds-leaves-count
offset_bounds-leaves-count c = omega (arith, room (goal.at.offset_bounds-leaves-count c).Else-is_marked)

pub bounds-leaves-count : goal.bounds-leaves-count
bounds-leaves-count c = room (goal.at.bounds-leaves-count c).Else-is_marked

pub overflow_cast-named : goal.overflow_cast-named
overflow_cast-named c = omega (arith, place (goal.at.overflow_cast-named c).Else-is_marked)

pub offset_bounds-named-count : goal.offset_bounds-named-count
offset_bounds-named-count c = omega (arith, room (goal.at.offset_bounds-named-count c).Else-is_marked)

pub bounds-named-count : goal.bounds-named-count
bounds-named-count c = room (goal.at.bounds-named-count c).Else-is_marked

pub bounds-marks-cpu : goal.bounds-marks-cpu
bounds-marks-cpu c = omega (arith, place (goal.at.bounds-marks-cpu c).Else-is_marked, c.loop-i.invariant.marks_are.size)

pub overflow_add-count : goal.overflow_add-count
overflow_add-count c = omega (arith, room (goal.at.overflow_add-count c).Else-is_marked)

pub loop-i-preserved : goal.loop-i-preserved
loop-i-preserved c =
    let at = (goal.at.loop-i-preserved c).Else-is_marked in
    gather_push _ _ _ c.loop-i.invariant (leaf at) c.requires.few.0 (unmarked at)

pub returns-clause-answer : goal.returns-clause-answer
returns-clause-answer c = all_scan _ _ _ c.loop-i.invariant (omega arith)

pub returns-clause-arrays : goal.returns-clause-arrays
returns-clause-arrays c = all_left _ _ _ c.loop-i.invariant (omega arith)
