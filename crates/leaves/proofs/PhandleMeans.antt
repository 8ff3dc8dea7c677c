-- SPDX-License-Identifier: BSD-2-Clause OR GPL-2.0-or-later
-- The cpu records by their index, and their phandles. Assumes well-formed tables, and phandles where it cites rule 17.
use mathlib.Core.Path.{◌≡◌, sym, ◌∙◌}
use Prim.Native.Nat.{ℕ, ◌≤◌, ◌<◌}
use lib.ListN.{length, get_or, length-map}
use Rattle.laws.specs.answers.Search.{count_below}
use Rattle.laws.proofs.IndexLaws.{index_of_lem, index_unique, get_d_map_lt}
use Rattle.tables.specs.facts.Board.{Board, WordSized, node_count}
use Rattle.wellformed.specs.facts.Rules.{WellFormed}
use Rattle.cpus.specs.facts.Node.{Cpu, Phandle}
use Rattle.laws.specs.facts.Limits.{max_cpus}
use Rattle.cpus.specs.facts.Rules.{SoundCpus, SoundPhandles}
use Rattle.cpus.specs.answers.Check.{is_cpu, cpu_list, phandle_readings, phandle_list}
use Rattle.cpus.proofs.CpuMeans.{cpu_test, cpu_listing, cpu_count_lem}
use Rattle.cpus.proofs.CpuGives.{count_range, cpu_phandle_lem, phandle_distinct}

-- the cpu record with an index, the index of a cpu record, and the phandles
abbrev pub cpu_at : Board → ℕ → ℕ
cpu_at b k = get_or (cpu_list b) k 0

abbrev pub cpu_index : Board → ℕ → ℕ
cpu_index b c = count_below (is_cpu b.nodes b.pool) c

abbrev phandle_number : Board → ℕ → ℕ
phandle_number b c = (phandle_readings b c).value

pub phandle_count : (b : Board) → length (phandle_list b) ≡ length (cpu_list b)
phandle_count b = length-map (cpu_list b) (phandle_number b)

pub in_cpus : (b : Board) {k : ℕ} → k < length (phandle_list b) → k < length (cpu_list b)
in_cpus b lt = rw (phandle_count b) at lt

pub in_phandles : (b : Board) {k : ℕ} → k < length (cpu_list b) → k < length (phandle_list b)
in_phandles b lt = rw (phandle_count b) lt

module _ {b : Board} (well : WellFormed b) where
  pub cpu_index_lem : (c : ℕ) → Cpu b c → (cpu_index b c < length (cpu_list b)) × (cpu_at b (cpu_index b c) ≡ c)
  cpu_index_lem c cpu = index_of_lem (is_cpu b.nodes b.pool) c (node_count b.nodes) ((cpu_test well c).1 cpu) cpu.child.inside

  pub index_cpu : (k : ℕ) → k < length (cpu_list b) → Cpu b (cpu_at b k)
  index_cpu = (cpu_listing well).only

module _ {b : Board} (sized : WordSized b) (well : WellFormed b) where
  pub few_phandles : SoundCpus b → length (phandle_list b) ≤ max_cpus
  few_phandles sound = rw (phandle_count b, ← cpu_count_lem b) (count_range sized well sound).1

  module _ (handles : SoundPhandles b) where
    number_at : (k : ℕ) → k < length (cpu_list b) → get_or (phandle_list b) k 0 ≡ phandle_number b (cpu_at b k)
    number_at k lt = get_d_map_lt (phandle_number b) (cpu_list b) k lt

    pub phandle_at : (k : ℕ) → k < length (cpu_list b) → Phandle b (cpu_at b k) (get_or (phandle_list b) k 0)
    phandle_at k lt = rw (number_at k lt) (cpu_phandle_lem sized well handles (index_cpu well k lt))

    -- different cpu records have different phandles
    pub index_apart : (j k : ℕ) → j < length (cpu_list b) → k < length (cpu_list b) → get_or (phandle_list b) j 0 ≡ get_or (phandle_list b) k 0 → j ≡ k
    index_apart j k lj lk e =
        index_unique (cpu_listing well) j k lj lk
        (phandle_distinct sized well handles (index_cpu well j lj) (index_cpu well k lk) (sym (number_at j lj) ∙ e ∙ number_at k lk))
