-- SPDX-License-Identifier: BSD-2-Clause OR GPL-2.0-or-later
-- The rows written fit the map. Assumes nothing.
use mathlib.Core.Path.{◌≡◌, refl, subst}
use Prim.Native.Nat.{ℕ, ◌/◌, ◌%◌, ◌^◌, ◌<◌}
use native.Mathlib.Omega.{arith}
use Rattle.layout.specs.answers.Words.{row_words}
use Rattle.layout.specs.facts.Row.{row_at}
use Rattle.layout.proofs.RowLaws.{row_path}
use Rattle.tables.specs.facts.Board.{Board, WordSized, node_count}
use Rattle.wellformed.specs.facts.Rules.{WellFormed}
use Rattle.wellformed.proofs.WellFormedLaws.{wf_nodes}
use Rattle.cpus.specs.facts.Node.{Reg, reg_number}
use Rattle.cpus.specs.facts.Rules.{SoundCpus}
use Rattle.cpus.specs.answers.Check.{reg_at}
use Rattle.cpus.proofs.PairMeans.{pair_parts}
use Rattle.cpus.proofs.RegMeans.{reg_lower}
use Rattle.cpus.proofs.CpuGives.{cpu_reg_lem}
use Rattle.cpumap.specs.facts.Map.{Map}
use Rattle.topology.specs.facts.Rules.{SoundTopology}
use Rattle.leaves.specs.facts.Leaf.{Leaf, Names}
use Rattle.leaves.specs.answers.Scan.{leaves_of}
use Rattle.leaves.proofs.RuleCases.{leaf_inside}
use Rattle.rows.specs.answers.Leaf.{row_of}
use Rattle.rows.specs.answers.Write.{rows_below, source_of}
use Rattle.rows.specs.answers.Slots.{slot_by, slots_of}
use Rattle.rows.specs.facts.Fits.{SlotWord, RowFits, Fits}
use Rattle.rows.proofs.WordMeans.{socket_word, cluster_word, core_word, thread_word}
use Rattle.rows.proofs.RowLaws.{rows_length, row_at_lem}
use Rattle.rows.proofs.SourceMeans.{leaf_count, leaf_at, cpu_in, leaf_row, LeafFacts, row_number_lem}
use Rattle.rows.proofs.HashMeans.{slot_word}

module _
    {b : Board}
    (sized : WordSized b)
    (well : WellFormed b)
    (sound : SoundCpus b)
    {m : ℕ}
    (the_map : Map b m)
    (kept : SoundTopology b)
  where
    -- a record's number fits a word
    small : (i : ℕ) → i < node_count b.nodes → i % 2 ^ 32 ≡ i
    small i lt = omega (arith, (wf_nodes well).1)

    -- the row of a leaf
    row_fits : (leaf cpu : ℕ) → Leaf b leaf → Names b leaf cpu → RowFits b leaf (row_words (leaf_row b leaf cpu))
    unfolding row_words row_of
    row_fits leaf cpu l n =
        record {
          size = refl;
          leaf_word = small leaf (leaf_inside l);
          cpu = rw cpu_word n;
          reg = rw cpu_word reg;
          socket = socket_word well sound l;
          cluster = λ d lt. rw (row_path (leaf_row b leaf cpu) d lt) (cluster_word well sound l d lt);
          core = core_word well sound the_map kept l;
          thread = thread_word well sound l;
          slot = subst (λ (m : ℕ). SlotWord b m (slot_by (slots_of b) (reg_at b cpu))) whole (slot_word sized well sound (reg_at b cpu));
        }
      where
        cpu_word : cpu % 2 ^ 32 ≡ cpu
        cpu_word = small cpu n.is_cpu.child.inside

        reg : Reg b cpu (reg_at b cpu / 2 ^ 32) (reg_at b cpu % 2 ^ 32)
        reg =
            let t = cpu_reg_lem sized well sound n.is_cpu in
            let p = pair_parts t.0 t.1 (reg_lower t.2) in
            rw (t.3, p.0, p.1) t.2

        whole : reg_at b cpu ≡ reg_number (reg_at b cpu / 2 ^ 32) (reg_at b cpu % 2 ^ 32)
        whole = omega arith

    pub rows_fit : LeafFacts b → Fits b (rows_below (source_of b) (leaf_count b))
    rows_fit leaves = record { leaves = leaves_of b; listing = leaves.listing; size = rows_length (source_of b) (leaf_count b); each = each }
      where
        each : (k : ℕ) → k < leaf_count b → RowFits b (leaf_at b k) (row_at (rows_below (source_of b) (leaf_count b)) k)
        each k lt =
            let leaf = leaves.listing.only k lt in
            rw (row_at_lem (source_of b) (leaf_count b) k lt, row_number_lem leaves k lt)
            (row_fits (leaf_at b k) (cpu_in b (leaf_at b k)) leaf (leaves.names (leaf_at b k) leaf))
