-- SPDX-License-Identifier: BSD-2-Clause OR GPL-2.0-or-later
-- A survey that tells nothing, the checks behind it and the writing, joined: what they come to for the board. Assumes nothing.
use Rattle.std.specs.Prelude.{Option, Ok}
use mathlib.Core.Path.{◌≡◌, sym, ap, ◌∙◌}
use mathlib.Core.List.{List}
use Prim.Native.Nat.{ℕ, ◌≤◌}
use native.Mathlib.Omega.{arith}
use lib.ListN.{length, take, replicate, length-map, length-replicate}
use Rattle.laws.proofs.FrontLaws.{front_is}
use Rattle.tables.specs.facts.Board.{Board}
use Rattle.cpus.specs.answers.Check.{cpu_count, cpu_list, reg_list}
use Rattle.cpus.proofs.CpuMeans.{cpu_count_lem}
use Rattle.leaves.specs.answers.Scan.{leaves_of, named_of}
use Rattle.rows.specs.declared.Lists.{Lists as RowLists}
use Rattle.rows.specs.answers.Slots.{slots_for, slots_of}
use Rattle.rows.specs.answers.Write.{source}
use Rattle.demands.specs.facts.Told.{BoardAnswer}
use Rattle.demands.specs.answers.Survey.{survey_fault}
use Rattle.demands.specs.answers.Answer.{answer_by, rows_by}
use Rattle.board.specs.declared.Arrays.{Arrays}
use Rattle.board.specs.declared.Counts.{Counts}
use Rattle.board.specs.steps.Told.{survey_told}
use Rattle.board.specs.steps.Survey.{survey_of, Listed, zeros, IsListed}
use Rattle.board.specs.steps.Read.{written_fault}
use Rattle.board.proofs.ReadLaws.{survey_clear, counts_are, rooms_are, Met}
use Rattle.board.proofs.SurveyLaws.{survey_few}

module _
    {b : Board} {counts : Counts} {arrays : Arrays} (found : survey_told (Ok counts) ≡ survey_of b)
    (promised : (survey_fault b).number ≡ 0 → Listed b zeros arrays) where
  abbrev laid : Listed b zeros arrays
  laid = promised (survey_clear b found)

  abbrev few : (cpu_count b ≤ 256) × (length (leaves_of b) ≤ cpu_count b)
  few = survey_few b (survey_clear b found)

  -- the counts lie within the arrays
  pub within : (counts.cpus ≤ 256) × (counts.leaves ≤ 256)
  within = (omega (arith, few, counts_are b found), omega (arith, few, counts_are b found))

  cpu_size : counts.cpus ≡ length (cpu_list b)
  cpu_size = (counts_are b found).0 ∙ cpu_count_lem b

  reg_size : counts.cpus ≡ length (reg_list b)
  reg_size = cpu_size ∙ sym (length-map (cpu_list b) _)

  leaf_size : counts.leaves ≡ length (leaves_of b)
  leaf_size = (counts_are b found).1

  named_size : counts.leaves ≡ length (named_of b)
  named_size = leaf_size ∙ sym (length-map (leaves_of b) _)

  room_of : {n : ℕ} → n ≤ 256 → n ≤ length (replicate {A = ℕ} 256 0)
  room_of h = omega (arith, h, length-replicate {A = ℕ} 256 0)

  cpus_are : take counts.cpus arrays.cpus ≡ cpu_list b
  cpus_are = front_is _ _ laid.cpus_laid cpu_size (room_of (omega (arith, within, cpu_size)))

  regs_are : take counts.cpus arrays.regs ≡ reg_list b
  regs_are = front_is _ _ laid.regs_laid reg_size (room_of (omega (arith, within, reg_size)))

  leaves_are : take counts.leaves arrays.leaves ≡ leaves_of b
  leaves_are = front_is _ _ laid.leaves_laid leaf_size (room_of (omega (arith, within, leaf_size)))

  named_are : take counts.leaves arrays.named ≡ named_of b
  named_are = front_is _ _ laid.named_laid named_size (room_of (omega (arith, within, named_size)))

  -- what was written by the lists
  pub met :
      {lists : RowLists} →
      IsListed arrays counts lists →
      (before : List ℕ) (room : ℕ) (entries : Option ℕ) {r : BoardAnswer} {after : List ℕ} →
      let n = length lists.cpus.now in
      let slots = slots_for b.width lists.regs.now in
      r ≡ answer_by (written_fault n room entries slots.hash.bits) n slots.hash →
      after
      ≡ rows_by (written_fault n room entries slots.hash.bits)
      (source b.nodes b.pool lists.cpus.now lists.regs.now lists.leaves.now lists.named.now slots) before →
      Met b before room entries r after
  met {lists} l before room entries is wrote =
      let cpus : lists.cpus.now ≡ cpu_list b = l.cpus ∙ cpus_are in
      let regs : lists.regs.now ≡ reg_list b = l.regs ∙ regs_are in
      let leaves : lists.leaves.now ≡ leaves_of b = l.leaves ∙ leaves_are in
      let named : lists.named.now ≡ named_of b = l.named ∙ named_are in
      let count : length lists.cpus.now ≡ cpu_count b = ap length cpus ∙ sym (cpu_count_lem b) in
      let slots : slots_for b.width lists.regs.now ≡ slots_of b = ap (slots_for b.width) regs in
      let rooms = rooms_are b found room entries in
      (rw (count, slots, rooms) at is, rw (count, slots, cpus, regs, leaves, named, rooms) at wrote)
