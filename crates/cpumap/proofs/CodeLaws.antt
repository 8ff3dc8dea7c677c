-- SPDX-License-Identifier: BSD-2-Clause OR GPL-2.0-or-later
-- What the proofs of the code cite of the definitions. Assumes nothing.
use Rattle.std.specs.Prelude.{Option, None, Some, Ok, Err, MatchOption, IfSome, unwrap_or}
use Rattle.std.specs.Option.{ok_or}
use mathlib.Core.Path.{◌≡◌, refl, sym, ap, ap₂, ◌∙◌}
use mathlib.Core.Bool.{Bool, true, false, cond}
use mathlib.Core.List.{List}
use Prim.Native.Nat.{ℕ, zero, suc, ◌+◌, ◌-◌, ◌≤◌, ◌<◌}
use native.Mathlib.Omega.{arith}
use lib.Dec.{ltb}
use lib.ListN.{length, set}
use borrow.Author.Tests.{lt-ltb, le-ltb, le-leb, lt-leb}
use Rattle.laws.specs.declared.rules.Rule.{Rule}
use Rattle.laws.specs.declared.rules.Rule.TheVariants.{CpuMapMissing}
use Rattle.laws.specs.declared.rules.Broken.{Broken}
use Rattle.laws.specs.facts.Told.{Fault, number_of}
use Rattle.laws.specs.answers.Fault.{plain, clear, first_fault}
use Rattle.laws.proofs.ToldLaws.{rule_shown}
use Rattle.laws.specs.answers.Search.{lowest}
use Rattle.laws.proofs.SearchLaws.{lowest_at}
use Rattle.layout.specs.facts.Row.{gap}
use Rattle.names.specs.declared.TopologyName.{TopologyName}
use Rattle.names.specs.declared.TopologyName.TheVariants.{Socket, Cluster, Core, Thread, Other}
use Rattle.names.specs.answers.Name.{name_of}
use Rattle.tables.specs.facts.Board.{node_count, range, name_offset, name_length}
use Rattle.tables.specs.answers.Tree.{parent_of, climb}
use Rattle.tables.proofs.TreeLaws.{parent_is, parent_top, the_parent, climb_parent, climb_none, climb_keeps}
use Rattle.cpumap.specs.declared.ClusterPath.{ClusterPath}
use Rattle.cpumap.specs.declared.Position.{Position}
use Rattle.cpumap.specs.answers.Path.{topology_name, no_clusters, extend, cluster_step, cluster_path, socket_step, socket_number, position_of}
use Rattle.cpumap.specs.steps.Position.{no_position, position_step}
use Rattle.cpumap.specs.answers.Find.{map_of, second_map_fault, map_fault, map_scan}

-- a position from its parts
abbrev both : ℕ → ClusterPath → Position
both socket clusters = record { socket = socket; clusters = clusters }

module _ (nodes pool : List ℕ) (i : ℕ) where
  -- the name of record i
  pub name_none : node_count nodes ≤ i → Other ≡ topology_name nodes pool i
  unfolding topology_name
  name_none h = rw (le-ltb i (node_count nodes) h)

  pub name_outside :
      {offset len : ℕ} →
      i < node_count nodes →
      offset ≡ name_offset nodes i →
      len ≡ name_length nodes i →
      length pool < offset + len →
      Other ≡ topology_name nodes pool i
  unfolding topology_name
  name_outside h o l out =
      let far : length pool < name_offset nodes i + name_length nodes i = rw (o, l) at out in
      rw (lt-ltb i (node_count nodes) h, lt-leb (name_offset nodes i + name_length nodes i) (length pool) far)

  pub name_read :
      {offset len : ℕ} →
      i < node_count nodes →
      offset ≡ name_offset nodes i →
      len ≡ name_length nodes i →
      offset + len ≤ length pool →
      name_of (range pool offset (offset + len - offset)) ≡ topology_name nodes pool i
  unfolding topology_name
  name_read {offset} {len} h o l inside =
      let size : offset + len - offset ≡ len = omega arith in
      let near : name_offset nodes i + name_length nodes i ≤ length pool = rw (o, l) at inside in
      ap₂ (λ (x y : ℕ). name_of (range pool x y)) o (size ∙ l)
      ∙ sym (rw (lt-ltb i (node_count nodes) h, le-leb (name_offset nodes i + name_length nodes i) (length pool) near))

  -- a value by recursion on the parent, at a record with a parent
  climb_is :
      {A : Type 0} (top : A) (step : ℕ → A → A) (p : ℕ) → parent_of nodes i ≡ Some p → step i (climb nodes top step p) ≡ climb nodes top step i
  climb_is top step p h =
      let at = parent_is nodes i p h in
      ap (λ (q : ℕ). step i (climb nodes top step q)) (sym at.1) ∙ climb_parent nodes top step i at.0

  -- the clusters and the socket above record i
  pub path_none : parent_of nodes i ≡ None → no_clusters ≡ cluster_path nodes pool i
  unfolding cluster_path
  path_none h = climb_none nodes no_clusters (λ j path. cluster_step (topology_name nodes pool j) path) i (parent_top nodes i h)

  pub path_is :
      (p : ℕ) → parent_of nodes i ≡ Some p → cluster_step (topology_name nodes pool i) (cluster_path nodes pool p) ≡ cluster_path nodes pool i
  unfolding cluster_path
  path_is p h = climb_is no_clusters (λ j path. cluster_step (topology_name nodes pool j) path) p h

  pub socket_none : parent_of nodes i ≡ None → gap ≡ socket_number nodes pool i
  unfolding socket_number
  socket_none h = climb_none nodes gap (λ j socket. socket_step (topology_name nodes pool j) socket) i (parent_top nodes i h)

  pub socket_is :
      (p : ℕ) → parent_of nodes i ≡ Some p → socket_step (topology_name nodes pool i) (socket_number nodes pool p) ≡ socket_number nodes pool i
  unfolding socket_number
  socket_is p h = climb_is gap (λ j socket. socket_step (topology_name nodes pool j) socket) p h

  -- both together
  pub position_none : parent_of nodes i ≡ None → no_position ≡ position_of nodes pool i
  unfolding position_of
  position_none h = ap₂ both (socket_none h) (path_none h)

  pub position_is :
      (p : ℕ) → parent_of nodes i ≡ Some p → position_step (topology_name nodes pool i) (position_of nodes pool p) ≡ position_of nodes pool i
  unfolding position_of
  position_is p h = ap₂ both (socket_is p h) (path_is p h)

-- a record has no more clusters above it than its number
pub path_short : (nodes pool : List ℕ) (i : ℕ) → (cluster_path nodes pool i).depth ≤ i
unfolding cluster_path extend
path_short nodes pool =
    climb_keeps nodes no_clusters (λ j path. cluster_step (topology_name nodes pool j) path) (λ i path. path.depth ≤ i) (λ i. omega arith)
    (λ i path h le. let lt = (the_parent nodes i h).earlier in more (topology_name nodes pool i) path (omega arith))
  where
    one_more : (path : ClusterPath) (n : ℕ) → (extend path n).depth ≤ path.depth + 1
    one_more path n = go (ltb path.depth 4)
      where
        go : (b : Bool) → (cond b (record { numbers = set path.numbers path.depth n; depth = path.depth + 1 }) path).depth ≤ path.depth + 1
        go true = omega arith
        go false = omega arith

    more : (name : TopologyName) (path : ClusterPath) {i : ℕ} → path.depth < i → (cluster_step name path).depth ≤ i
    more (Socket n) path lt = omega arith
    more (Cluster n) path lt = omega (arith, one_more path n)
    more (Core n) path lt = omega arith
    more (Thread n) path lt = omega arith
    more Other path lt = omega arith

-- the lowest place that passes, as a search finds it
module _ (p : ℕ → Bool) where
  none_below : (n : ℕ) → ((k : ℕ) → 0 ≤ k → k < n → p k ≡ false) → lowest p n ≡ n
  unfolding lowest
  none_below zero h = refl
  none_below (suc n) h = rw (none_below n (λ k _ lt. h k (omega arith) (omega arith)), le-ltb n n (omega arith), h n (omega arith) (omega arith))

  pub lowest_found :
      (n : ℕ) (r : Option ℕ) →
      MatchOption r ((k : ℕ) → 0 ≤ k → k < n → p k ≡ false)
      (λ i. (0 ≤ i) × (i < n) × (p i ≡ true) × ((k : ℕ) → 0 ≤ k → k < i → p k ≡ false)) →
      unwrap_or r n ≡ lowest p n
  lowest_found n None h = sym (none_below n h)
  lowest_found n (Some i) h = lowest_at p i n h.1 (none_below i h.3) h.2

-- the search for the map
module _ (nodes pool : List ℕ) where
  abbrev seconds : Fault
  seconds = first_fault (second_map_fault nodes pool) (node_count nodes)

  -- no map is found
  pub map_none :
      (found : Option ℕ) {r : Rule} →
      unwrap_or found (node_count nodes) ≡ map_of nodes pool →
      ok_or found CpuMapMissing ≡ Err r →
      record { fault = plain (number_of r) 0; map = 0 } ≡ map_scan nodes pool
  unfolding map_scan map_fault
  map_none None {r} e h =
      let same : CpuMapMissing ≡ r = cc in
      rw (← same, ← e, le-ltb (node_count nodes) (node_count nodes) (omega arith))
  map_none (Some m) e h = let z : ◌≡◌ {A = ℕ} 0 1 = cc in absurd (omega arith)

  -- the map that is found
  pub map_some :
      (found : Option ℕ) {m : ℕ} →
      unwrap_or found (node_count nodes) ≡ map_of nodes pool →
      IfSome found (λ k. k < node_count nodes) →
      ok_or found CpuMapMissing ≡ Ok m →
      (m ≡ map_of nodes pool) × (m < node_count nodes)
  map_some None e lt h = let z : ◌≡◌ {A = ℕ} 0 1 = cc in absurd (omega arith)
  map_some (Some k) {m} e lt h = let same : k ≡ m = cc in (rw (← same) e, rw (← same) lt)

  past_map : {m : ℕ} {f : Fault} → (m ≡ map_of nodes pool) × (m < node_count nodes) → f ≡ seconds → map_fault nodes pool ≡ f
  unfolding map_fault
  past_map t s = rw (lt-ltb (map_of nodes pool) (node_count nodes) (rw t.0 at t.1)) (sym s)

  pub map_second :
      {m : ℕ} (r : Broken) →
      (m ≡ map_of nodes pool) × (m < node_count nodes) →
      plain (number_of r.rule) r.place ≡ seconds →
      record { fault = plain (number_of r.rule) r.place; map = 0 } ≡ map_scan nodes pool
  unfolding map_scan
  map_second r t s = rw (past_map t s, rule_shown r.rule)

  pub map_found :
      {m : ℕ} → (m ≡ map_of nodes pool) × (m < node_count nodes) → clear ≡ seconds → record { fault = clear; map = m } ≡ map_scan nodes pool
  unfolding map_scan
  map_found t s = rw (past_map t s, ← t.0)
