-- SPDX-License-Identifier: BSD-2-Clause OR GPL-2.0-or-later
-- The slots of the rows written: of MPIDRs no two the same, each below 2 to the power of the hash's bits; of hart ids gaps. Assumes nothing.
use mathlib.Core.Path.{◌≡◌, refl, sym, ap, ◌∙◌}
use Prim.Native.Nat.{ℕ, ◌^◌, ◌<◌}
use lib.ListN.{length-map}
use Rattle.laws.specs.facts.Listing.{Member}
use Rattle.laws.proofs.IndexLaws.{index_unique, get_d_map_lt}
use Rattle.layout.specs.answers.Words.{row_words}
use Rattle.layout.specs.facts.Row.{gap, row_slot, row_at}
use Rattle.affinity.specs.answers.Hash.{slot_in}
use Rattle.tables.specs.facts.Board.{Board, WordSized, riscv, HasMpidrs}
use Rattle.wellformed.specs.facts.Rules.{WellFormed}
use Rattle.cpus.specs.facts.Rules.{SoundCpus}
use Rattle.cpus.specs.answers.Check.{cpu_list, reg_at, reg_list}
use Rattle.cpus.proofs.CpuGives.{reg_distinct}
use Rattle.leaves.specs.facts.Leaf.{Leaf, Names}
use Rattle.leaves.specs.answers.Scan.{cpu_of, tree_of}
use Rattle.rows.specs.answers.Leaf.{row_of}
use Rattle.rows.specs.answers.Slots.{slot_by, slots_of, board_hash}
use Rattle.rows.specs.answers.Write.{rows_below, source_of}
use Rattle.rows.proofs.RowLaws.{row_at_lem}
use Rattle.rows.proofs.SourceMeans.{leaf_count, leaf_at, cpu_in, leaf_row, LeafFacts, row_number_lem}
use Rattle.rows.proofs.HashMeans.{hash_by, slot_by_lem, slot_gap, hash_of_lem}

row_slot_lem : (b : Board) (leaf cpu : ℕ) → row_slot (row_words (leaf_row b leaf cpu)) ≡ slot_by (slots_of b) (reg_at b cpu)
unfolding row_words row_of
row_slot_lem b leaf cpu = refl

module _ {b : Board} (leaves : LeafFacts b) where
  abbrev slot_word : ℕ → ℕ
  slot_word k = row_slot (row_at (rows_below (source_of b) (leaf_count b)) k)

  -- the slot of row k is that of the `reg` of its cpu record
  slot_made : (k : ℕ) → k < leaf_count b → slot_word k ≡ slot_by (slots_of b) (reg_at b (cpu_in b (leaf_at b k)))
  slot_made k lt =
      ap row_slot (row_at_lem (source_of b) (leaf_count b) k lt ∙ ap row_words (row_number_lem leaves k lt)) ∙ row_slot_lem b (leaf_at b k) (cpu_in b (leaf_at b k))

  pub slots_gaps : b.width ≡ riscv → (k : ℕ) → k < leaf_count b → slot_word k ≡ gap
  slots_gaps e k lt = slot_made k lt ∙ slot_gap b e (reg_at b (cpu_in b (leaf_at b k)))

  -- the `reg` of row k is a listed one
  listed : (k : ℕ) → k < leaf_count b → Member (reg_list b) (reg_at b (cpu_in b (leaf_at b k)))
  listed k lt =
      let cpu = cpu_of (tree_of b) (leaf_at b k) in
      let in_cpus = leaves.index (leaf_at b k) (leaves.listing.only k lt) in
      record { index = cpu; inside = rw (length-map (cpu_list b) (reg_at b)) in_cpus; here = get_d_map_lt (reg_at b) (cpu_list b) cpu in_cpus }

  module _ (sized : WordSized b) (well : WellFormed b) (sound : SoundCpus b) (has : HasMpidrs b) where
    slot_of_mpidr : (k : ℕ) → k < leaf_count b → slot_word k ≡ slot_in (reg_list b) (reg_at b (cpu_in b (leaf_at b k)))
    slot_of_mpidr k lt = slot_made k lt ∙ slot_by_lem b has (reg_at b (cpu_in b (leaf_at b k)))

    pub slots_distinct_rows : (j k : ℕ) → j < leaf_count b → k < leaf_count b → slot_word j ≡ slot_word k → j ≡ k
    slots_distinct_rows j k lj lk e =
        index_unique leaves.listing j k lj lk
        (leaves.apart (leaf_at b j) (leaf_at b k) (cpu_in b (leaf_at b k)) leaf_j leaf_k (rw same at names_j) names_k)
      where
        leaf_j : Leaf b (leaf_at b j)
        leaf_j = leaves.listing.only j lj

        leaf_k : Leaf b (leaf_at b k)
        leaf_k = leaves.listing.only k lk

        names_j : Names b (leaf_at b j) (cpu_in b (leaf_at b j))
        names_j = leaves.names (leaf_at b j) leaf_j

        names_k : Names b (leaf_at b k) (cpu_in b (leaf_at b k))
        names_k = leaves.names (leaf_at b k) leaf_k

        same_number : reg_at b (cpu_in b (leaf_at b j)) ≡ reg_at b (cpu_in b (leaf_at b k))
        same_number = (hash_of_lem sized well sound has).distinct _ _ (listed j lj) (listed k lk) (sym (slot_of_mpidr j lj) ∙ e ∙ slot_of_mpidr k lk)

        same : cpu_in b (leaf_at b j) ≡ cpu_in b (leaf_at b k)
        same = reg_distinct sized well sound names_j.is_cpu names_k.is_cpu same_number

    pub slots_bounded : (k : ℕ) → k < leaf_count b → slot_word k < 2 ^ (board_hash b).bits
    slots_bounded k lt = rw (slot_of_mpidr k lt, hash_by b has) ((hash_of_lem sized well sound has).bounded _ (listed k lt))
