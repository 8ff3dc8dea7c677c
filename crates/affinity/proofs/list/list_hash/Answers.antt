-- SPDX-License-Identifier: BSD-2-Clause OR GPL-2.0-or-later
-- `list_hash` refuses a list with a fault, and hashes the mask of any other. Assumes nothing.
use mathlib.Core.Path.{◌≡◌, refl, ap}
use mathlib.Core.List.{List}
use Prim.Native.Nat.{ℕ}
use Rattle.std.specs.Prelude.{Ok, Err}
use Rattle.std.proofs.lemmas.Result.{err_from_is_err_and}
use Rattle.laws.specs.declared.rules.Broken.{Broken}
use Rattle.laws.proofs.ToldLaws.{rule_counts}
use Rattle.affinity.specs.declared.Hash.{Hash}
use Rattle.affinity.specs.facts.Told.{ListMask, ListHash}
use Rattle.affinity.specs.answers.Told.{mask_told, hash_told}
use Rattle.affinity.specs.answers.Hash.{hash_of_mask}
use Rattle.affinity.specs.answers.List.{hash_answer, mask_answer}
use Rattle.affinity.specs.facts.List.{no_hash, HashDemands}
use Rattle.affinity.proofs.ListLaws.{mask_refused, mask_accepted}
use Rattle.affinity.proofs.ListMeans.{hash_meets}
use Rattle.affinity.proofs.list.list_hash.Goals as goal

abbrev as_hash : ListMask → ListHash
as_hash m =
    record { number = m.number; place = m.place; hash = no_hash }

module _ (list : List ℕ) where
  refused :
      (r : Broken) → mask_told (Err r) ≡ mask_answer list → (hash_told (Err r) ≡ hash_answer list) × HashDemands list (hash_told (Err r))
  unfolding hash_answer
  refused r e =
      let told = mask_refused list (mask_told (Err r)) e (rule_counts r.rule) in
      hash_meets list {r = hash_told (Err r)} (rw told.0 (ap as_hash told.1))

  accepted :
      (mask : ℕ) (h : Hash) → mask_told (Ok mask) ≡ mask_answer list → h ≡ hash_of_mask mask →
      (hash_told (Ok h) ≡ hash_answer list) × HashDemands list (hash_told (Ok h))
  unfolding hash_answer
  accepted mask h e f =
      let told = mask_accepted list (mask_told (Ok mask)) e refl in
      hash_meets list {r = hash_told (Ok h)} (rw (told.0, f, told.1))

pub returns-in_err-mask : goal.returns-in_err-mask
returns-in_err-mask c =
    let p = err_from_is_err_and c.from_residual.result c.from_residual.ensures.1 in
    let mask = c.in_err-mask.ensures in
    let told = refused c.args.list.now c.in_err-mask.field-0.0 mask.answer in
    rw (p.1, p.2) (record { answer = told.0; demands = told.1 })

pub returns : goal.returns
returns c =
    let told = accepted c.args.list.now c.in_ok-mask.mask c.hash_of_mask.result c.in_ok-mask.ensures.answer c.hash_of_mask.ensures in
    record { answer = told.0; demands = told.1 }
