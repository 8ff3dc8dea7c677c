-- SPDX-License-Identifier: BSD-2-Clause OR GPL-2.0-or-later
-- A record that is neither a socket nor a cluster stands where its parent stands. Assumes nothing.
use Rattle.std.specs.Prelude.{None, Option, Some}
use mathlib.Core.Path.{◌≡◌, refl, sym, ap, ◌∙◌}
use mathlib.Core.Bool.{true}
use mathlib.Core.List.{List}
use Prim.Native.Nat.{ℕ}
use native.Mathlib.Omega.{arith}
use Rattle.names.specs.declared.TopologyName.{TopologyName}
use Rattle.names.specs.declared.TopologyName.TheVariants.{Socket, Cluster, Core, Thread, Other}
use Rattle.tables.specs.facts.Board.{parent_word}
use Rattle.tables.specs.answers.Tree.{parent_of}
use Rattle.tables.proofs.TreeLaws.{parent_is}
use Rattle.cpumap.specs.declared.Position.{Position}
use Rattle.cpumap.specs.answers.Path.{topology_name, position_of}
use Rattle.cpumap.specs.steps.Position.{position_step}
use Rattle.cpumap.proofs.CodeLaws.{position_is}
use Rattle.rows.specs.declared.Placed.{Placed}
use Rattle.rows.specs.steps.Position.{keeps_position, placed}

step_kept : (p : ℕ) (name : TopologyName) (above : Position) → keeps_position (Some p) name ≡ true → above ≡ position_step name above
step_kept p (Socket n) above e = let z : ◌≡◌ {A = ℕ} 0 1 = cc in absurd (omega arith)
step_kept p (Cluster n) above e = let z : ◌≡◌ {A = ℕ} 0 1 = cc in absurd (omega arith)
step_kept p (Core n) above e = refl
step_kept p (Thread n) above e = refl
step_kept p Other above e = refl

-- a record with its position is that of its own number
pub placed_own : (nodes pool : List ℕ) {i : ℕ} {r : Placed} → r ≡ placed nodes pool i → r ≡ placed nodes pool r.node
placed_own nodes pool e = e ∙ ap (λ (p : Placed). placed nodes pool p.node) (sym e)

pub position_kept :
    (nodes pool : List ℕ) (i : ℕ) {parent : Option ℕ} {name : TopologyName} {above : Position} →
    parent ≡ parent_of nodes i →
    name ≡ topology_name nodes pool i →
    above ≡ position_of nodes pool (parent_word nodes i) →
    keeps_position parent name ≡ true →
    above ≡ position_of nodes pool i
position_kept nodes pool i e n a k = a ∙ go (parent_of nodes i) refl (rw (e, n) at k)
  where
    go :
        (p : Option ℕ) →
        parent_of nodes i ≡ p →
        keeps_position p (topology_name nodes pool i) ≡ true →
        position_of nodes pool (parent_word nodes i) ≡ position_of nodes pool i
    go (Some p) h k =
        let step = step_kept p (topology_name nodes pool i) (position_of nodes pool p) k in
        rw (parent_is nodes i p h).1 (step ∙ position_is nodes pool i p h)
    go None h k = let z : ◌≡◌ {A = ℕ} 0 1 = cc in absurd (omega arith)
