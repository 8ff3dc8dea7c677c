-- SPDX-License-Identifier: BSD-2-Clause OR GPL-2.0-or-later
-- What the rows of an accepted board are made of, and each row of them. Assumes nothing.
use mathlib.Core.Path.{◌≡◌, sym, ◌∙◌}
use mathlib.Core.List.{map}
use Prim.Native.Nat.{ℕ, ◌<◌}
use lib.ListN.{length, get_or}
use Rattle.laws.specs.facts.Listing.{Listing}
use Rattle.laws.proofs.IndexLaws.{get_d_map_lt}
use Rattle.layout.specs.declared.Row.{Row}
use Rattle.tables.specs.facts.Board.{Board, WordSized}
use Rattle.wellformed.specs.facts.Rules.{WellFormed}
use Rattle.cpus.specs.facts.Rules.{SoundCpus, SoundPhandles}
use Rattle.cpus.specs.answers.Check.{cpu_count, cpu_list, reg_at, reg_list}
use Rattle.cpus.proofs.CpuMeans.{cpu_count_lem}
use Rattle.cpumap.specs.facts.Map.{Map}
use Rattle.cpumap.specs.answers.Find.{map_of}
use Rattle.topology.specs.facts.Rules.{SoundTopology}
use Rattle.leaves.specs.facts.Leaf.{Leaf, Names}
use Rattle.leaves.specs.facts.Rules.{SoundLeaves}
use Rattle.leaves.specs.answers.Scan.{cpu_of, tree_of, leaves_of}
use Rattle.cpumap.proofs.MapMeans.{map_of_lem, map_found}
use Rattle.leaves.proofs.PhandleMeans.{cpu_at}
use Rattle.leaves.proofs.TreeGives.{leaf_listing, leaf_names, leaf_cpu_lem, leaves_apart, same_count}
use Rattle.rows.specs.answers.Leaf.{row_of}
use Rattle.rows.specs.answers.Write.{row_number, source_of}
use Rattle.rows.specs.answers.Slots.{slot_by, slots_of}

-- the number of rows; the leaf and the cpu record of row k
abbrev pub leaf_count : Board → ℕ
leaf_count b = length (leaves_of b)

abbrev pub leaf_at : Board → ℕ → ℕ
leaf_at b k = get_or (leaves_of b) k 0

abbrev pub cpu_in : Board → ℕ → ℕ
cpu_in b leaf = cpu_at b (cpu_of (tree_of b) leaf)

-- the row of a leaf that names a cpu record
abbrev pub leaf_row : Board → ℕ → ℕ → Row
leaf_row b leaf cpu =
    row_of b.nodes b.pool leaf (record { cpu = cpu; reg = reg_at b cpu; slot = slot_by (slots_of b) (reg_at b cpu) })

-- the leaves listed: each names a cpu record, no two the same, and there are as many as cpu records
pub record LeafFacts (b : Board) : Type 0 where
  pub listing : Listing (Leaf b) (leaves_of b)
  pub index : (leaf : ℕ) → Leaf b leaf → cpu_of (tree_of b) leaf < length (cpu_list b)
  pub names : (leaf : ℕ) → Leaf b leaf → Names b leaf (cpu_in b leaf)
  pub apart : (i j c : ℕ) → Leaf b i → Leaf b j → Names b i c → Names b j c → i ≡ j
  pub count : leaf_count b ≡ length (cpu_list b)

-- of an accepted map they hold
module _
    {b : Board}
    (sized : WordSized b)
    (well : WellFormed b)
    (sound : SoundCpus b)
    (handles : SoundPhandles b)
    {m : ℕ}
    (the_map : Map b m)
    (kept : SoundTopology b)
    (mapped : SoundLeaves b)
  where
    pub leaf_facts : LeafFacts b
    leaf_facts =
        record {
          listing = leaf_listing sized well sound handles found kept mapped;
          index = leaf_cpu_lem sized well sound handles found kept mapped;
          names = leaf_names sized well sound handles found kept mapped;
          apart = leaves_apart sized well sound handles found kept mapped;
          count = same_count sized well sound handles found kept mapped;
        }
      where
        found : Map b (map_of b.nodes b.pool)
        found = map_of_lem b well (map_found b well m the_map)

    -- one row for each cpu record
    pub leaf_count_lem : leaf_count b ≡ cpu_count b
    leaf_count_lem = leaf_facts.count ∙ sym (cpu_count_lem b)

module _ {b : Board} where
  -- row k is that of leaf k and of the cpu record that it names
  pub row_number_lem : LeafFacts b → (k : ℕ) → k < leaf_count b → row_number (source_of b) k ≡ leaf_row b (leaf_at b k) (cpu_in b (leaf_at b k))
  unfolding row_number
  row_number_lem leaves k lt = rw (index, number)
    where
      in_cpus : cpu_of (tree_of b) (leaf_at b k) < length (cpu_list b)
      in_cpus = leaves.index (leaf_at b k) (leaves.listing.only k lt)

      index : get_or (map (cpu_of (tree_of b)) (leaves_of b)) k 0 ≡ cpu_of (tree_of b) (leaf_at b k)
      index = get_d_map_lt (cpu_of (tree_of b)) (leaves_of b) k lt

      number : get_or (reg_list b) (cpu_of (tree_of b) (leaf_at b k)) 0 ≡ reg_at b (cpu_in b (leaf_at b k))
      number = get_d_map_lt (reg_at b) (cpu_list b) (cpu_of (tree_of b) (leaf_at b k)) in_cpus
