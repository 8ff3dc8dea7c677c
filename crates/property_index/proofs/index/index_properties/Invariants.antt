-- SPDX-License-Identifier: BSD-2-Clause OR GPL-2.0-or-later
-- `index_properties` meets its contract: before property k, the table has those below k noted. Assumes nothing.
use mathlib.Core.Path.{◌≡◌}
use Prim.Native.Nat.{◌+◌, ◌*◌, ◌≤◌}
use lib.ListN.{length, drop}
use Rattle.std.specs.Iterator.Adapters.{enumerate_source, enumerate_count, take_source, take_count}
use Rattle.std.specs.Slice.Iter.{chunks_exact_rest, chunks_exact_size}
use Rattle.laws.specs.facts.Limits.{max_properties}
use Rattle.property_index.specs.answers.Index.{indexed_below}
use Rattle.property_index.proofs.index.index_properties.Given as goal

abbrev pub invariant-loop-k : goal.invariant-loop-k
invariant-loop-k l =
    let k = enumerate_count l.k-iterator in
    let few = enumerate_source l.k-iterator in
    record {
      whole : chunks_exact_size (take_source few) ≡ 5;
      rest : chunks_exact_rest (take_source few) ≡ drop (5 * k) l.props;
      within : 5 * k ≤ length l.props;
      left : k + take_count few ≡ max_properties;
      noted : l.table ≡ indexed_below l.initial.table l.props l.pool k;
    }
