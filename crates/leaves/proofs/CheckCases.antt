-- SPDX-License-Identifier: BSD-2-Clause OR GPL-2.0-or-later
-- What the check of one record answers, case by case. Assumes nothing.
use mathlib.Core.Path.{◌≡◌, refl, ap}
use mathlib.Core.Bool.{Bool, true, false}
use Prim.Native.Nat.{ℕ, ◌≤◌, ◌<◌}
use lib.Dec.{ltb}
use lib.ListN.{length}
use borrow.Author.Tests.{ltb-true, ltb-false}
use Rattle.laws.specs.facts.Limits.{no_property}
use Rattle.laws.specs.answers.Fault.{or_number}
use Rattle.laws.proofs.FaultLaws.{or_number_zero, or_number_right}
use Rattle.tables.specs.answers.Lookup.{record_of}
use Rattle.topology.specs.facts.Told.{RecordShape}
use Rattle.topology.specs.answers.Check.{record_shape}
use Rattle.leaves.specs.facts.Told.{RecordCheck}
use Rattle.leaves.specs.answers.Check.{leaf_cpu, record_check}
use Rattle.leaves.specs.answers.Scan.{Tree, check, repeat_fault, tree_fault}

module _ (t : Tree) (i : ℕ) where
  -- the shape of record i, and the index that its `cpu` gives
  abbrev pub shape_of : RecordShape
  shape_of = record_shape t.nodes t.pool t.root i

  abbrev pub named : ℕ
  named = leaf_cpu t.at t.pool t.phandles i

  -- no leaf: number v, and its second place s
  abbrev pub Answers : ℕ → ℕ → Type 0
  Answers v s = check t i ≡ record { number = v; second = s; leaf = false; cpu = length t.phandles }

  pub data Checked : Type 0 where
    inner : shape_of.leaf ≡ false → Answers shape_of.number no_property → Checked
    nameless : shape_of.leaf ≡ true → length t.phandles ≤ named → Answers 24 (record_of (t.at i)) → Checked
    leaf :
        shape_of.leaf ≡ true →
        named < length t.phandles →
        check t i ≡ record { number = 0; second = no_property; leaf = true; cpu = named } →
        Checked

  pub checked : Checked
  unfolding record_check
  checked = go shape_of.leaf refl (ltb named (length t.phandles)) refl
    where
      go : (l : Bool) → shape_of.leaf ≡ l → (d : Bool) → ltb named (length t.phandles) ≡ d → Checked
      go false e d f = Checked.inner e (rw e)
      go true e false f = Checked.nameless e (ltb-false _ _ f) (rw (e, f))
      go true e true f = Checked.leaf e (ltb-true _ _ f) (rw (e, f))

  -- where the record is no leaf, the number answered is all that is told of it
  pub answers_fault : (v : ℕ) {s : ℕ} → Answers v s → tree_fault t i ≡ or_number v 0
  unfolding tree_fault
  answers_fault v a = rw (ap (λ (r : RecordCheck). r.leaf) a, ap (λ (r : RecordCheck). r.number) a)

  -- where no number is answered, what is told is rule 25; and where nothing is told, no number is answered
  pub check_fault : (check t i).number ≡ 0 → tree_fault t i ≡ repeat_fault t i
  unfolding tree_fault
  check_fault z = or_number_right (check t i).number (repeat_fault t i) z

  pub fault_check : tree_fault t i ≡ 0 → (check t i).number ≡ 0
  unfolding tree_fault
  fault_check z = (or_number_zero (check t i).number (repeat_fault t i) z).0
