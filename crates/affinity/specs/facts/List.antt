-- SPDX-License-Identifier: BSD-2-Clause OR GPL-2.0-or-later
-- Rules 28 to 30, and what is demanded of the answers about a list of MPIDRs (01, "The slot").
use Rattle.std.specs.Prelude.{[], ◌∷◌, List, ◌≡◌, ℕ, ◌<◌, length, get_or}
use Rattle.laws.specs.facts.Listing.{Member}
use Rattle.laws.specs.facts.Limits.{max_cpus}
use Rattle.laws.specs.facts.First.{stage_in, First}
use Rattle.affinity.specs.declared.Hash.{Hash}
use Rattle.affinity.specs.facts.Told.{ListHash}
use Rattle.affinity.specs.facts.Told.{ListSlot}
use Rattle.affinity.specs.facts.Level.{Affine}
use Rattle.affinity.specs.facts.Hash.{IsHash}
use Rattle.affinity.specs.facts.Slot.{slot_of}

abbrev pub no_hash : Hash
no_hash = record { mask = 0; shifts = 0 ∷ 0 ∷ 0 ∷ 0 ∷ []; bits = 0 }

-- rules 28 and 29 of a list: the number and the place of each broken one
pub data ListRule (list : List ℕ) : ℕ → ℕ → Type 0 where
  list_length_empty : length list ≡ 0 → ListRule list 28 0
  list_length_many : max_cpus < length list → ListRule list 28 0
  list_mpidr : (i : ℕ) → i < length list → (Affine (get_or list i 0) → ⊥) → ListRule list 29 i

-- rule 30 of one MPIDR asked in a list, behind earlier rules: those of the list, or of a plan for it
pub data SlotRule (R : ℕ → ℕ → Type 0) (list : List ℕ) (mpidr : ℕ) : ℕ → ℕ → Type 0 where
  earlier : {n p : ℕ} → R n p → SlotRule R list mpidr n p
  list_unknown : (Member list mpidr → ⊥) → SlotRule R list mpidr 30 0

-- the order: each number a stage of its own
abbrev pub list_stages : List (List ℕ)
list_stages = (28 ∷ []) ∷ (29 ∷ []) ∷ (30 ∷ []) ∷ []

abbrev pub list_stage : ℕ → ℕ
list_stage = stage_in list_stages

-- a refusal tells the first broken rule, and no hash
pub record HashRefused (list : List ℕ) (r : ListHash) : Type 0 where
  pub first : First list_stage (ListRule list) r.number r.place
  pub hash : r.hash ≡ no_hash

-- an acceptance: no rule is broken, and the hash is the list's
pub record HashAccepted (list : List ℕ) (r : ListHash) : Type 0 where
  pub none : (n p : ℕ) → ListRule list n p → ⊥
  pub place : r.place ≡ 0
  pub hash : IsHash list r.hash

pub record HashDemands (list : List ℕ) (r : ListHash) : Type 0 where
  pub refused : (r.number ≡ 0 → ⊥) → HashRefused list r
  pub sound : r.number ≡ 0 → HashAccepted list r

-- a refusal tells the first broken rule, and no slot
pub record SlotRefused (list : List ℕ) (mpidr : ℕ) (r : ListSlot) : Type 0 where
  pub first : First list_stage (SlotRule (ListRule list) list mpidr) r.number r.place
  pub slot : r.slot ≡ 0

-- an acceptance: no rule is broken, and the slot is that under the list's hash
pub record SlotAccepted (list : List ℕ) (mpidr : ℕ) (r : ListSlot) : Type 0 where
  pub none : (n p : ℕ) → SlotRule (ListRule list) list mpidr n p → ⊥
  pub place : r.place ≡ 0
  pub hash : Hash
  pub is_hash : IsHash list hash
  pub slot : r.slot ≡ slot_of hash mpidr

pub record SlotDemands (list : List ℕ) (mpidr : ℕ) (r : ListSlot) : Type 0 where
  pub refused : (r.number ≡ 0 → ⊥) → SlotRefused list mpidr r
  pub sound : r.number ≡ 0 → SlotAccepted list mpidr r
