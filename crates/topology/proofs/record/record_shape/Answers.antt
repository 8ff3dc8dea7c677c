-- SPDX-License-Identifier: BSD-2-Clause OR GPL-2.0-or-later
-- `record_shape` meets its contract: record 0, the map, a record below it, a record outside it. Assumes nothing.
use mathlib.Core.Path.{◌≡◌, sym, ap, ◌∙◌}
use mathlib.Core.Bool.{false, cond}
use Prim.Native.Nat.{ℕ}
use lib.Dec.{eqb}
use borrow.Author.Tests.{eq-eqb, ne_eqb}
use Rattle.std.proofs.lemmas.Result.{err_from_is_err_and}
use Rattle.names.specs.declared.TopologyName.{TopologyName}
use Rattle.cpumap.specs.answers.Number.{kind_number}
use Rattle.topology.specs.answers.Check.{shape, record_shape}
use Rattle.topology.proofs.CodeLaws.{below_later}
use Rattle.topology.proofs.record.record_shape.Goals as goal
use Rattle.topology.proofs.record.record_shape.Goals.{After-outside_fault}

pub returns-then-i-eq0 : goal.returns-then-i-eq0
unfolding record_shape
returns-then-i-eq0 c = rw (eq-eqb _ _ c.if-i-eq0.true)

pub returns-in_err-group_fault : goal.returns-in_err-group_fault
unfolding record_shape
returns-in_err-group_fault c =
    let p = err_from_is_err_and c.from_residual.result c.from_residual.ensures.1 in
    rw (p.1, p.2, ne_eqb _ _ c.if-i-eq0.false, eq-eqb _ _ c.if-i-map.true) (ap (λ (v : ℕ). shape v false) c.in_err-group_fault.ensures)

pub returns-then-i-map : goal.returns-then-i-map
unfolding record_shape
returns-then-i-map c =
    rw (ne_eqb _ _ c.if-i-eq0.false, eq-eqb _ _ c.if-i-map.true) (ap (λ (v : ℕ). shape v false) c.in_ok-group_fault.ensures)

pub map_record_shape-requires : goal.map_record_shape-requires
map_record_shape-requires c =
    let later = below_later _ _ _ (sym c.is_below.ensures ∙ c.if-is_below.true) in
    (later.0, later.1, c.topology_name-name.ensures)

pub returns-then-is_below : goal.returns-then-is_below
unfolding record_shape
returns-then-is_below c =
    rw (ne_eqb _ _ c.if-i-eq0.false, ne_eqb _ _ c.if-i-map.false, sym c.is_below.ensures ∙ c.if-is_below.true)
    c.map_record_shape.ensures

-- a record outside the map
outside :
    (c : After-outside_fault) {v : ℕ} →
    let a = c.args in
    v ≡ cond (eqb (kind_number c.topology_name-name.result) 0) 0 18 →
    shape v false ≡ record_shape a.tables.now.nodes.now a.tables.now.pool.now a.map a.i
unfolding record_shape
outside c e =
    rw (ne_eqb _ _ c.if-i-eq0.false, ne_eqb _ _ c.if-i-map.false, sym c.is_below.ensures ∙ c.if-is_below.false)
    (ap (λ (v : ℕ). shape v false) (e ∙ ap (λ (n : TopologyName). cond (eqb (kind_number n) 0) 0 18) c.topology_name-name.ensures))

pub returns-in_err-outside_fault : goal.returns-in_err-outside_fault
returns-in_err-outside_fault c =
    let p = err_from_is_err_and c.from_residual-in_err-outside_fault.result c.from_residual-in_err-outside_fault.ensures.1 in
    rw (p.1, p.2) (outside (goal.at.returns-in_err-outside_fault c).After-outside_fault c.in_err-outside_fault.ensures)

pub returns : goal.returns
returns c = outside (goal.at.returns c).After-outside_fault c.in_ok-outside_fault.ensures
