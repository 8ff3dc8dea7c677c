-- SPDX-License-Identifier: BSD-2-Clause OR GPL-2.0-or-later
-- What is demanded of our planner (02, W8).
use Rattle.std.specs.Prelude.{List, ◌⊎◌, ◌≡◌, ℕ, ◌≤◌, ◌<◌, length, get_or, take}
use Rattle.laws.specs.facts.First.{First}
use Rattle.laws.specs.facts.Listing.{Member, Listing}
use Rattle.affinity.specs.declared.Hash.{Hash}
use Rattle.affinity.specs.facts.Hash.{IsHash}
use Rattle.affinity.specs.facts.List.{ListRule, list_stage}
use Rattle.affinity.specs.facts.Mask.{Differ}
use Rattle.plan.specs.facts.Told.{Plan}
use Rattle.plan.specs.facts.Plan.{Separates, SeparatedAt, drop_at}
use Rattle.plan.specs.facts.Rules.{IsPlan}

-- the positions of a plan: the first `count` of its array
abbrev pub positions_of : Plan → List ℕ
positions_of r = take r.count r.positions

-- what is left when the bits below k were tried: those of them that were kept, and the mask bits from k + 1 on
abbrev pub LeftAt : List ℕ → List ℕ → ℕ → ℕ → Type 0
LeftAt list positions k bit = ((bit < k) × Member positions bit) ⊎ ((k < bit) × Differ list bit)

-- a mask bit that what is left does not separate the list without
pub record Kept (list positions : List ℕ) (k : ℕ) : Type 0 where
  pub in_mask : Differ list k
  pub needed : Separates list (LeftAt list positions k) → ⊥

-- starting from all mask bits, each that can be dropped is dropped, from the lowest up
abbrev pub Thinned : List ℕ → List ℕ → Type 0
Thinned list positions = Listing (Kept list positions) positions

-- a refusal tells the first of 28 and 29, and no plan
pub record MakeRefused (list : List ℕ) (r : Plan) : Type 0 where
  pub first : First list_stage (ListRule list) r.number r.place
  pub count : r.count ≡ 0

-- an acceptance: the plan is accepted, has no more positions than the hash has bits, and none of them can be dropped
pub record MakeAccepted (list : List ℕ) (r : Plan) : Type 0 where
  pub place : r.place ≡ 0
  pub accepted : IsPlan list (positions_of r)
  pub thinned : Thinned list (positions_of r)
  pub few : (h : Hash) → IsHash list h → r.count ≤ h.bits
  pub minimal : (i : ℕ) → i < r.count → SeparatedAt list (drop_at i (positions_of r)) → ⊥
  pub room : r.count ≤ 32

pub record MakeDemands (list : List ℕ) (r : Plan) : Type 0 where
  pub refused : (r.number ≡ 0 → ⊥) → MakeRefused list r
  pub sound : r.number ≡ 0 → MakeAccepted list r
  -- 32 positions, 0 behind the plan
  pub size : length r.positions ≡ 32
  pub rest : (i : ℕ) → r.count ≤ i → get_or r.positions i 0 ≡ 0
