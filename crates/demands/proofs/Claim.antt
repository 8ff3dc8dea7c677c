-- SPDX-License-Identifier: BSD-2-Clause OR GPL-2.0-or-later
-- Demands 1 and 3 of the definitions that the reading call's contract cites. Assumes nothing.
use mathlib.Core.Path.{◌≡◌, refl, sym, ◌∙◌}
use mathlib.Core.Bool.{Bool, true, false}
use mathlib.Core.Logic.{⊎_elim, ◌↔◌}
use mathlib.Core.List.{List}
use Prim.Native.Nat.{ℕ, ◌*◌, ◌≤◌, ◌<◌}
use native.Mathlib.Omega.{arith}
use lib.ListN.{length, take, drop}
use lib.Dec.{eqb}
use borrow.Author.Tests.{eq-eqb, eqb-true, eqb-false}
use Rattle.laws.specs.facts.Limits.{no_property}
use Rattle.laws.proofs.SearchLaws.{lt_or_le}
use Rattle.laws.proofs.RuleStageLaws.{tells_none}
use Rattle.layout.specs.facts.Row.{row_size, slot_at}
use Rattle.tables.specs.facts.Board.{Board, WordSized, HasMpidrs, node_count}
use Rattle.wellformed.specs.facts.Rules.{WellFormed}
use Rattle.cpus.specs.facts.Rules.{SoundCpus, SoundPhandles}
use Rattle.cpus.specs.answers.Check.{cpu_count, cpu_list}
use Rattle.cpus.proofs.CpuMeans.{cpu_listing, cpu_count_lem}
use Rattle.cpus.proofs.RuleMeans.{nine}
use Rattle.cpumap.specs.facts.Map.{Map}
use Rattle.cpumap.specs.facts.Rules.{MapRule}
use Rattle.topology.specs.facts.Rules.{SoundTopology}
use Rattle.leaves.specs.facts.Rules.{SoundLeaves}
use Rattle.cpumap.specs.answers.Find.{map_of}
use Rattle.cpumap.proofs.MapMeans.{map_of_lem, no_map}
use Rattle.rows.specs.answers.Slots.{board_hash}
use Rattle.rows.specs.facts.Fits.{Fits}
use Rattle.rows.specs.answers.Write.{rows_below, written, source_of}
use Rattle.rows.proofs.SourceMeans.{leaf_count, LeafFacts, leaf_facts, leaf_count_lem}
use Rattle.rows.proofs.HashMeans.{board_hash_lem}
use Rattle.rows.proofs.FitMeans.{rows_fit}
use Rattle.rows.proofs.FitUnique.{fits_unique}
use Rattle.rows.proofs.SlotMeans.{slots_distinct_rows, slots_bounded, slots_gaps}
use Rattle.rows.proofs.WrittenLaws.{written_front, written_rest, written_length, written_row}
use Rattle.demands.specs.facts.Told.{BoardAnswer}
use Rattle.demands.specs.facts.Rules.{Breaks, Told, MapBroken, Room}
use Rattle.demands.specs.answers.Answer.{board_fault, answer_of, rows_after}
use Rattle.demands.specs.facts.Reading.{Refused, Accepted, Unchanged, Demands}
use Rattle.demands.proofs.StageLaws.{breaks_staged}
use Rattle.demands.proofs.AnswerLaws.{told_first, by_number, by_refusal}
use Rattle.demands.proofs.BoardTells.{board_tells}
use Rattle.demands.proofs.SecondBoard.{second_is}
use Rattle.demands.proofs.SplitLaws.{from_unsplit, to_unsplit}

-- the rows of a board that breaks no rule
module _
    {b : Board}
    (sized : WordSized b)
    (before : List ℕ)
    (none : (n p : ℕ) → Breaks b (length before) n p → ⊥)
  where
    well : WellFormed b
    well n p r = none n p (Breaks.tables r)

    sound : SoundCpus b
    sound n p r = none n p (Breaks.cpus r)

    handles : SoundPhandles b
    handles n p r = none n p (Breaks.phandles r)

    kept : SoundTopology b
    kept n p r = none n p (Breaks.topology r)

    mapped : SoundLeaves b
    mapped n p r = none n p (Breaks.leaves r)

    the_map : (m : ℕ) × Map b m
    the_map =
        ⊎_elim
        (λ lt. (map_of b.nodes b.pool, map_of_lem b well lt))
        (λ le. absurd (none 15 0 (Breaks.map (MapRule.cpu_map_missing (no_map b well le)))))
        (lt_or_le (map_of b.nodes b.pool) (node_count b.nodes))

    room : row_size * cpu_count b ≤ length before
    room =
        ⊎_elim
        (λ lt. absurd (none 27 0 (Breaks.row_space (cpu_list b) (cpu_listing well) (rw (cpu_count_lem b) at lt))))
        (λ le. le)
        (lt_or_le (length before) (row_size * cpu_count b))

    leaves : LeafFacts b
    leaves = leaf_facts sized well sound handles the_map.1 kept mapped

    same : leaf_count b ≡ cpu_count b
    same = leaf_count_lem sized well sound handles the_map.1 kept mapped

    has_room : row_size * leaf_count b ≤ length before
    has_room = omega (arith, same, room)

    abbrev after : List ℕ
    after = written (source_of b) before

    fits : Fits b (take (row_size * cpu_count b) after)
    fits = rw (← same, written_front (source_of b) before has_room) (rows_fit sized well sound the_map.1 kept leaves)

    slot_at_lem : (k : ℕ) → k < cpu_count b → slot_at after k ≡ slot_at (rows_below (source_of b) (leaf_count b)) k
    slot_at_lem k lt = rw (written_row (source_of b) before has_room k (rw same lt))

    distinct : HasMpidrs b → (j k : ℕ) → j < cpu_count b → k < cpu_count b → slot_at after j ≡ slot_at after k → j ≡ k
    distinct has j k lj lk e =
        slots_distinct_rows leaves sized well sound has j k (rw same lj) (rw same lk) (sym (slot_at_lem j lj) ∙ e ∙ slot_at_lem k lk)

    rest : drop (row_size * cpu_count b) after ≡ drop (row_size * cpu_count b) before
    rest = rw (← same) (written_rest (source_of b) before has_room)

    rows_accepted : Accepted b before (record { number = 0; place = 0; second = no_property; count = cpu_count b; hash = board_hash b }) after
    rows_accepted =
        record {
          place = refl;
          second = refl;
          fits = fits;
          only = λ rows h. fits_unique sized well sound handles kept h fits;
          rest = rest;
          size = written_length (source_of b) before has_room;
          count = (cpu_list b, cpu_listing well, cpu_count_lem b);
          hash = board_hash_lem sized well sound;
          distinct = distinct;
          bounded = λ has k lt. rw (slot_at_lem k lt) (slots_bounded leaves sized well sound has k (rw same lt));
          gaps = λ e k lt. slot_at_lem k lt ∙ slots_gaps leaves e k (rw same lt);
        }

module _ {b : Board} (sized : WordSized b) (before : List ℕ) where
  abbrev number : ℕ
  number = (board_fault b (length before)).number

  abbrev answer : BoardAnswer
  answer = answer_of b (length before)

  abbrev buffer : List ℕ
  buffer = rows_after b before

  first_told : (number ≡ 0 → ⊥) → Told (Breaks b (length before)) number (board_fault b (length before)).place
  first_told = told_first (omega arith) (λ n p. breaks_staged) (board_tells sized (length before))

  refusal : (number ≡ 0 → ⊥) → Refused b (Breaks b (length before)) before answer buffer
  unfolding answer_of rows_after
  refusal ne =
      by_refusal (board_fault b (length before)) (cpu_count b) (board_hash b) (source_of b) before ne (first_told ne) (second_is b (length before))

  pub none : number ≡ 0 → (n p : ℕ) → Breaks b (length before) n p → ⊥
  none = tells_none (λ n p. breaks_staged) (board_tells sized (length before))

  -- as many rows as cpu records, and room for them
  pub rows_many : number ≡ 0 → (leaf_count b ≡ cpu_count b) × (row_size * cpu_count b ≤ length before)
  rows_many z = (same sized before (none z), room sized before (none z))

  acceptance : number ≡ 0 → Accepted b before answer buffer
  unfolding answer_of rows_after
  acceptance z = rw (eq-eqb number 0 z) (rows_accepted sized before (none z))

  -- the answer's number is that of the fault
  answer_number : answer.number ≡ number
  unfolding answer_of
  answer_number = by_number (board_fault b (length before)) (cpu_count b) (board_hash b)

  -- a map rule is broken where some rule is, none of them being one of the other layers
  map_broken : WellFormed b → SoundCpus b → Room b (length before) → (n p : ℕ) → Breaks b (length before) n p → MapBroken b
  map_broken well sound room n p (Breaks.tables r) = absurd (well n p r)
  map_broken well sound room n p (Breaks.cpus r) = absurd (sound n p r)
  map_broken well sound room n p (Breaks.map r) = MapBroken.map r
  map_broken well sound room n p (Breaks.phandles r) = MapBroken.phandle r
  map_broken well sound room n p (Breaks.topology r) = MapBroken.topology r
  map_broken well sound room n p (Breaks.leaves r) = MapBroken.leaf r
  map_broken well sound room n p (Breaks.row_space cpus l lt) = absurd (room (Breaks.row_space cpus l lt))

  exactly : WellFormed b → SoundCpus b → Room b (length before) → (number ≡ 0) ↔ (((m : ℕ) × Map b m) × (MapBroken b → ⊥))
  exactly well sound room =
      (λ z. (the_map sized before (none z), unbroken z), λ t. go (eqb number 0) refl t.1)
    where
      unbroken : number ≡ 0 → MapBroken b → ⊥
      unbroken z (MapBroken.map r) = none z _ _ (Breaks.map r)
      unbroken z (MapBroken.phandle r) = none z _ _ (Breaks.phandles r)
      unbroken z (MapBroken.topology r) = none z _ _ (Breaks.topology r)
      unbroken z (MapBroken.leaf r) = none z _ _ (Breaks.leaves r)

      go : (t : Bool) → eqb number 0 ≡ t → (MapBroken b → ⊥) → number ≡ 0
      go true e no_rule = eqb-true number 0 e
      go false e no_rule =
          absurd (no_rule (map_broken well sound room _ _ (first_told (eqb-false number 0 e)).first.broken))

  -- the rules before the split of 9 accept the same boards
  unchanged : Unchanged b (length before) answer
  unchanged =
      record {
        nine = nine;
        accepted = (λ z. from_unsplit (none (sym answer_number ∙ z)), λ h. answer_number ∙ go (eqb number 0) refl (to_unsplit h));
      }
    where
      go : (t : Bool) → eqb number 0 ≡ t → ((n p : ℕ) → Breaks b (length before) n p → ⊥) → number ≡ 0
      go true e h = eqb-true number 0 e
      go false e h = absurd (h _ _ (first_told (eqb-false number 0 e)).first.broken)

  -- the claim
  pub demands : Demands b before answer buffer
  demands =
      record {
        refused = λ ne. refusal (λ z. ne (answer_number ∙ z));
        sound = λ z. none (sym answer_number ∙ z);
        unchanged = unchanged;
        reading = λ well sound room.
            record {
              exactly = rw answer_number (exactly well sound room);
              refused = λ ne. refusal (λ z. ne (answer_number ∙ z));
              accepted = λ z. acceptance (sym answer_number ∙ z);
            };
      }
