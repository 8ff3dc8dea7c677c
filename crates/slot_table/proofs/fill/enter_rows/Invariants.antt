-- SPDX-License-Identifier: BSD-2-Clause OR GPL-2.0-or-later
-- `enter_rows` enters each row at its slot. Assumes nothing.
use mathlib.Core.Path.{◌≡◌}
use Prim.Native.Nat.{◌*◌, ◌≤◌}
use lib.ListN.{length, drop}
use Rattle.std.specs.Iterator.Adapters.{enumerate_source, enumerate_count}
use Rattle.std.specs.Slice.Iter.{chunks_exact_rest, chunks_exact_size}
use Rattle.layout.specs.facts.Row.{row_size, slot_at}
use Rattle.slot_table.specs.answers.Table.{entered_below}
use Rattle.slot_table.proofs.fill.enter_rows.Given as goal

abbrev pub invariant-loop-k : goal.invariant-loop-k
invariant-loop-k l =
    let k = enumerate_count l.k-iterator in
    record {
      whole : chunks_exact_size (enumerate_source l.k-iterator) ≡ row_size;
      rest : chunks_exact_rest (enumerate_source l.k-iterator) ≡ drop (row_size * k) l.rows;
      within : row_size * k ≤ length l.rows;
      room : l.size ≤ length l.initial.table;
      kept : length l.table ≡ length l.initial.table;
      entered : l.table ≡ entered_below (slot_at l.rows) l.size k l.initial.table;
    }
