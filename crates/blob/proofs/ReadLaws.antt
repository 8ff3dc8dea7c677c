-- SPDX-License-Identifier: BSD-2-Clause OR GPL-2.0-or-later
-- What the reader knows behind the header, and that what it answers and leaves is what is claimed. Assumes nothing.
use mathlib.Core.Path.{◌≡◌, refl, sym, ap, ◌∙◌, subst}
use mathlib.Core.List.{List, ◌++◌}
use Prim.Native.Nat.{ℕ, ◌+◌, ◌-◌, ◌≤◌}
use native.Mathlib.Omega.{arith}
use lib.ListN.{length, take, drop, length-drop}
use lib.Seq.{length-take-le}
use borrow.Author.Tests.{eq-eqb, ne_eqb}
use Rattle.laws.specs.facts.Limits.{max_blob}
use Rattle.laws.proofs.OverLaws.{over_fits}
use Rattle.laws.proofs.VerdictLaws.{Verdict, verdict_sound}
use Rattle.tokens.specs.facts.Token.{Blocks}
use Rattle.header.specs.facts.Header.{structure_at, structure_size, strings_at, strings_size, blocks_of}
use Rattle.header.specs.declared.BlockPlaces.{BlockPlaces}
use Rattle.header.specs.answers.Fault.{header_fault, blocks_fault, block_places}
use Rattle.flat.specs.facts.Told.{BlobAnswer}
use Rattle.flat.specs.facts.Reading.{BlobReading}
use Rattle.flat.specs.answers.Answer.{walk_in, blob_refused, walk_answer, blob_answer, filled_in, filled_over, nodes_after, props_after}
use Rattle.flat.proofs.HeaderMeans.{header_verdict, blocks_verdict}
use Rattle.flat.proofs.Claim.{claim, after_refused, room}
use Rattle.blob.specs.steps.Blocks.{blocks, Roomy}

-- where the blocks of a sound header end
pub record Ends (blob : List ℕ) : Type 0 where
  pub short : length blob ≤ max_blob
  pub structure : structure_at blob + structure_size blob ≤ length blob
  pub strings : strings_at blob + strings_size blob ≤ length blob

pub header_ends : (blob : List ℕ) → header_fault blob ≡ 0 → blocks_fault blob ≡ 0 → Ends blob
header_ends blob h k =
    let header = verdict_sound (header_verdict blob 0 0) h in
    let blocks = verdict_sound (blocks_verdict blob 0 0) k in
    record {
      short = header.not_long;
      structure = omega (arith, blocks.structure, header.total_most);
      strings = omega (arith, blocks.strings, header.total_most);
    }

-- the blocks as the slices of the blob that are lent
abbrev pub lent : List ℕ → BlockPlaces → Blocks
lent blob p = blocks (take (p.start + p.size) blob) p.start (take (p.strings + p.names - p.strings) (drop p.strings blob)) p.strings

module _ (blob : List ℕ) {p : BlockPlaces} (is : p ≡ block_places blob) where
  pub lent_is : lent blob p ≡ blocks_of blob
  lent_is = let size : strings_at blob + strings_size blob - strings_at blob ≡ strings_size blob = omega arith in rw (is, size)

  pub lent_sizes : Ends blob → let b = lent blob p in (length b.structure ≤ max_blob) × (b.strings_begin + length b.strings ≤ max_blob)
  lent_sizes ends =
      let structure = length-take-le (structure_at blob + structure_size blob) blob ends.structure in
      let behind : strings_size blob ≤ length (drop (strings_at blob) blob) = simp length-drop (omega (arith, ends.strings)) in
      let strings = length-take-le (strings_size blob) (drop (strings_at blob) blob) behind in
      subst (λ (b : Blocks). (length b.structure ≤ max_blob) × (b.strings_begin + length b.strings ≤ max_blob)) (sym lent_is)
      (omega (arith, structure, ends.structure, ends.short), omega (arith, strings, ends.strings, ends.short))

  pub lent_inside : Ends blob → (p.start + p.size ≤ length blob) × (p.strings + p.names ≤ length blob)
  lent_inside ends = rw is (ends.structure, ends.strings)

-- what reading the blocks leaves: the answer, and both tables
abbrev pub Left : Blocks → List ℕ → List ℕ → BlobAnswer → List ℕ → List ℕ → Type 0
Left b nodes props answer nodes' props' =
    let found = walk_answer (length nodes) (length props) (walk_in b) in
    (answer ≡ found) × ((nodes' ≡ filled_over found (filled_in b).nodes nodes) × (props' ≡ filled_over found (filled_in b).props props))

module _ (b : Blocks) (nodes props : List ℕ) {answer : BlobAnswer} (is : answer ≡ walk_answer (length nodes) (length props) (walk_in b)) where
  abbrev found : BlobAnswer
  found = walk_answer (length nodes) (length props) (walk_in b)

  pub filled_left :
      {nodes' props' : List ℕ} →
      Roomy b (length nodes) (length props) →
      answer.number ≡ 0 →
      (let words = (filled_in b).nodes in nodes' ≡ words ++ drop (length words) nodes) →
      (let words = (filled_in b).props in props' ≡ words ++ drop (length words) props) →
      Left b nodes props answer nodes' props'
  filled_left room z f g =
      let zero = subst (λ (a : BlobAnswer). a.number ≡ 0) is z in
      let e = eq-eqb found.number 0 zero in
      let fits = room zero in
      (is, (f ∙ rw e (sym (over_fits (filled_in b).nodes nodes fits.0)), g ∙ rw e (sym (over_fits (filled_in b).props props fits.1))))

-- the number that is told of a broken rule
number_told : {R : ℕ → ℕ → Type 0} {n p v : ℕ} {P : Type 0} → Verdict R n p P v → (v ≡ 0 → ⊥) → v ≡ n
number_told (Verdict.sound h) ne = absurd (ne refl)
number_told (Verdict.broken r) ne = refl

-- what is answered of a blob, by what its header says
module _ (blob nodes props : List ℕ) where
  abbrev told : BlobAnswer
  told = blob_answer blob (length nodes) (length props)

  -- what the call owes
  abbrev pub Owed : BlobAnswer → List ℕ → List ℕ → Type 0
  Owed answer nodes' props' =
      (answer ≡ told)
      × ((nodes' ≡ nodes_after blob nodes (length props))
      × ((props' ≡ props_after blob (length nodes) props) × BlobReading blob nodes props answer nodes' props'))

  met :
      {answer : BlobAnswer} {nodes' props' : List ℕ} →
      answer ≡ told →
      nodes' ≡ nodes_after blob nodes (length props) →
      props' ≡ props_after blob (length nodes) props →
      Owed answer nodes' props'
  met e f g = (e, (f, (g, rw (e, f, g) (claim blob nodes props))))

  refused_met : {n p : ℕ} → (n ≡ 0 → ⊥) → blob_refused n p ≡ told → Owed (blob_refused n p) nodes props
  refused_met ne e =
      let stays = after_refused blob nodes props (subst (λ (a : BlobAnswer). a.number ≡ 0 → ⊥) e ne) in
      met e (sym stays.0) (sym stays.1)

  pub header_met : {n : ℕ} → n ≡ header_fault blob → (n ≡ 0 → ⊥) → Owed (blob_refused n 0) nodes props
  unfolding blob_answer
  header_met is ne =
      let broken : header_fault blob ≡ 0 → ⊥ = λ z. ne (is ∙ z) in
      let number = is ∙ number_told (header_verdict blob 0 0) broken in
      refused_met ne (rw (ne_eqb (header_fault blob) 0 broken, number))

  module _ (h : header_fault blob ≡ 0) where
    pub blocks_met : {n : ℕ} → n ≡ blocks_fault blob → (n ≡ 0 → ⊥) → Owed (blob_refused n 0) nodes props
    unfolding blob_answer
    blocks_met is ne =
        let broken : blocks_fault blob ≡ 0 → ⊥ = λ z. ne (is ∙ z) in
        let number = is ∙ number_told (blocks_verdict blob 0 0) broken in
        refused_met ne (rw (eq-eqb (header_fault blob) 0 h, ne_eqb (blocks_fault blob) 0 broken, number))

    module _ (k : blocks_fault blob ≡ 0) where
      told_walk : told ≡ walk_answer (length nodes) (length props) (walk_in (blocks_of blob))
      unfolding blob_answer
      told_walk = rw (eq-eqb (header_fault blob) 0 h, eq-eqb (blocks_fault blob) 0 k)

      pub blob_roomy : Roomy (blocks_of blob) (length nodes) (length props)
      blob_roomy z = room blob nodes props (ap (λ (a : BlobAnswer). a.number) told_walk ∙ z)

      pub read_met :
          {b : Blocks} {answer : BlobAnswer} {nodes' props' : List ℕ} →
          b ≡ blocks_of blob →
          Left b nodes props answer nodes' props' →
          Owed answer nodes' props'
      unfolding nodes_after props_after
      read_met {answer = answer} {nodes'} {props'} is given =
          let left = subst (λ (c : Blocks). Left c nodes props answer nodes' props') is given in
          met (left.0 ∙ sym told_walk) (rw told_walk left.1.0) (rw told_walk left.1.1)
