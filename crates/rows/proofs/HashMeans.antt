-- SPDX-License-Identifier: BSD-2-Clause OR GPL-2.0-or-later
-- The hash and the slots of a board are computed as the facts have them. Assumes nothing.
use mathlib.Core.Path.{◌≡◌, ◌∙◌}
use mathlib.Core.Logic.{⊎_elim}
use Prim.Native.Nat.{ℕ}
use lib.ListN.{length-map}
use borrow.Author.Tests.{eq-eqb, ne_eqb}
use Rattle.laws.proofs.DecideLaws.{decided, eq_decides}
use Rattle.laws.proofs.IndexLaws.{get_d_map_lt}
use Rattle.layout.specs.facts.Row.{gap}
use Rattle.affinity.specs.answers.Mask.{mask_of}
use Rattle.affinity.specs.answers.Hash.{hash_of, slot_in}
use Rattle.affinity.specs.steps.List.{AllAffine}
use Rattle.affinity.specs.facts.Hash.{IsHash}
use Rattle.affinity.proofs.SlotLaws.{slot_guarded_lem}
use Rattle.affinity.proofs.HashMeans.{hash_is, empty_hash}
use Rattle.tables.specs.facts.Board.{Board, WordSized, riscv, HasMpidrs}
use Rattle.wellformed.specs.facts.Rules.{WellFormed}
use Rattle.cpus.specs.facts.Rules.{SoundCpus}
use Rattle.cpus.specs.answers.Check.{cpu_list, reg_at, reg_list}
use Rattle.cpus.proofs.CpuMeans.{cpu_listing}
use Rattle.cpus.proofs.RegMeans.{reg_affine}
use Rattle.cpus.proofs.CpuGives.{cpu_reg_lem}
use Rattle.rows.specs.answers.Slots.{slots_for, slot_by, slots_of, board_hash}
use Rattle.rows.specs.facts.BoardHash.{Mpidrs, no_mpidrs, BoardHash}
use Rattle.rows.specs.facts.Fits.{SlotWord}

-- the hash and the slots, with MPIDRs and without
module _ (b : Board) where
  module _ (has : HasMpidrs b) where
    pub hash_by : board_hash b ≡ hash_of (reg_list b)
    unfolding slots_for
    hash_by = rw (ne_eqb b.width riscv has)

    pub slot_by_lem : (reg : ℕ) → slot_by (slots_of b) reg ≡ slot_in (reg_list b) reg
    unfolding slots_for
    slot_by_lem reg = rw (ne_eqb b.width riscv has) (slot_guarded_lem (mask_of (reg_list b)) reg)

  module _ (e : b.width ≡ riscv) where
    hash_of_harts : board_hash b ≡ no_mpidrs
    unfolding slots_for
    hash_of_harts = rw (eq-eqb b.width riscv e) empty_hash

    pub slot_gap : (reg : ℕ) → slot_by (slots_of b) reg ≡ gap
    unfolding slots_for
    slot_gap reg = rw (eq-eqb b.width riscv e)

module _ {b : Board} (sized : WordSized b) (well : WellFormed b) (sound : SoundCpus b) where
  regs_of : Mpidrs b (reg_list b)
  regs_of =
      record {
        cpus = cpu_list b;
        listing = cpu_listing well;
        size = length-map (cpu_list b) (reg_at b);
        each = λ k lt.
            let t = cpu_reg_lem sized well sound ((cpu_listing well).only k lt) in (t.0, t.1, t.2, get_d_map_lt (reg_at b) (cpu_list b) k lt ∙ t.3);
      }

  -- MPIDRs have affinity bits alone, so their hash is the computed one
  module _ (has : HasMpidrs b) where
    pub hash_of_lem : IsHash (reg_list b) (hash_of (reg_list b))
    hash_of_lem = hash_is (reg_list b) affine
      where
        affine : AllAffine (reg_list b)
        affine i lt =
            let in_cpus = rw (length-map (cpu_list b) (reg_at b)) at lt in
            let t = cpu_reg_lem sized well sound ((cpu_listing well).only i in_cpus) in
            rw (get_d_map_lt (reg_at b) (cpu_list b) i in_cpus, t.3) (reg_affine has t.2)

    mpidr_hash : BoardHash b (hash_of (reg_list b))
    mpidr_hash = BoardHash.of_mpidrs has (reg_list b) regs_of hash_of_lem

  pub board_hash_lem : BoardHash b (board_hash b)
  board_hash_lem =
      ⊎_elim
      (λ e. rw (hash_of_harts b e) (BoardHash.of_harts e))
      (λ has. rw (hash_by b has) (mpidr_hash has))
      (decided (eq_decides b.width riscv))

  pub slot_word : (reg : ℕ) → SlotWord b reg (slot_by (slots_of b) reg)
  slot_word reg =
      ⊎_elim
      (λ e. rw (slot_gap b e reg) (SlotWord.no_slot e))
      (λ has. rw (slot_by_lem b has reg) (SlotWord.slotted has (hash_of (reg_list b)) (mpidr_hash has)))
      (decided (eq_decides b.width riscv))
