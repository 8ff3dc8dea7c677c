-- SPDX-License-Identifier: BSD-2-Clause OR GPL-2.0-or-later
-- The claim of the reader of a blob, of its definitions. Assumes nothing.
use Rattle.std.specs.Prelude.{Err, Ok, Result}
use mathlib.Core.Path.{◌≡◌, refl, sym, ap, ◌∙◌, subst}
use mathlib.Core.Bool.{false, cond}
use mathlib.Core.Logic.{inl, inr}
use mathlib.Core.List.{List, [], ◌∷◌, head-eq_of_cons-eq}
use Prim.Native.Nat.{ℕ, ◌+◌, ◌*◌, ◌<◌, ◌≤◌}
use native.Mathlib.Omega.{arith}
use lib.Dec.{ltb, eqb}
use lib.ListN.{length}
use lib.Seq.{length-take-le}
use borrow.Author.Tests.{ltb-true, ltb-false, eqb-true, eqb-false, ne_eqb}
use Rattle.laws.specs.facts.Limits.{no_parent}
use Rattle.laws.proofs.OverLaws.{over_fits}
use Rattle.laws.proofs.TestLaws.{cond_both}
use Rattle.laws.proofs.VerdictLaws.{verdict_sound, verdict_broken}
use Rattle.tokens.specs.facts.Token.{Blocks}
use Rattle.header.specs.facts.Header.{structure_at, structure_size, blocks_of}
use Rattle.header.specs.answers.Fault.{header_fault, blocks_fault}
use Rattle.stream.specs.declared.Walk.{Walk}
use Rattle.stream.specs.facts.Tree.{Nodes, tokens_of, node_words, prop_words, CpusAmong}
use Rattle.stream.specs.facts.Stream.{Holds, BrokenAt}
use Rattle.stream.proofs.TallyLaws.{tally_of, tally, no_tally}
use Rattle.stream.proofs.UniqueLaws.{holds_unique, broken_unique, holds_sound}
use Rattle.stream.proofs.TellLaws.{Tells, walk_all}
use Rattle.stream.proofs.AmongLaws.{among_unique}
use Rattle.flat.specs.facts.Told.{BlobAnswer}
use Rattle.flat.specs.facts.Rules.{children_of, CpusNodes, Cpus, BlobRule, BlobTold}
use Rattle.flat.specs.facts.Reading.{BlobReading}
use Rattle.flat.specs.answers.Answer.{walk_in, blob_refused, count_answer, walk_answer, blob_answer, filled_in, filled_over, nodes_after, props_after}
use Rattle.flat.proofs.HeaderMeans.{HeaderSound, BlocksSound, header_verdict, blocks_verdict}
use Rattle.flat.proofs.RuleLaws.{Kind, kind, rule_told}
use Rattle.flat.proofs.JoinLaws.{how_many, joined, among_total}
use Rattle.flat.proofs.BoardLaws.{only_left}

-- the `cpus` nodes of a held tree are the only ones
cpus_unique :
    {blob : List ℕ} {tree : Nodes} {found others : List Nodes} →
    Holds (blocks_of blob) tree →
    CpusAmong (blocks_of blob).structure (children_of tree) found →
    CpusNodes blob others →
    others ≡ found
cpus_unique {blob} {tree} {found} {others} holds among c =
    among_unique (subst (λ (t : Nodes). CpusAmong (blocks_of blob).structure (children_of t) others) (holds_unique c.holds holds) c.among) among

-- a list of one
single : (l : List Nodes) → length l ≡ 1 → (x : Nodes) × (l ≡ x ∷ [])
single [] e = absurd (omega arith)
single (x ∷ []) e = (x, refl)
single (x ∷ y ∷ l) e = absurd (omega arith)

module _ (blob nodes props : List ℕ) where
  abbrev b : Blocks
  b = blocks_of blob

  abbrev node_room : ℕ
  node_room = length nodes

  abbrev prop_room : ℕ
  prop_room = length props

  -- what is claimed, of an answer and the tables that belong to it; and room for the records
  pub record Claimed (answer : BlobAnswer) : Type 0 where
    pub reading : BlobReading blob nodes props answer (filled_over answer (filled_in b).nodes nodes) (filled_over answer (filled_in b).props props)
    pub node_fits : answer.number ≡ 0 → length (filled_in b).nodes ≤ node_room
    pub prop_fits : answer.number ≡ 0 → length (filled_in b).props ≤ prop_room
    pub nodes_counted : answer.number ≡ 0 → 3 * answer.nodes ≡ length (filled_in b).nodes
    pub props_counted : answer.number ≡ 0 → 5 * answer.props ≡ length (filled_in b).props

  -- a refusal
  claim_refused : (n p : ℕ) → 31 ≤ n → BlobTold blob node_room prop_room n p → Claimed (blob_refused n p)
  claim_refused n p le told =
      let not_zero : eqb n 0 ≡ false = ne_eqb n 0 (λ e. omega arith) in
      record {
        reading =
            record {
              exactly = (λ e. absurd (omega arith), λ none. absurd (none n p told.broken));
              refused = λ ne. record { first = told; node_count = refl; prop_count = refl; node_table = rw not_zero; prop_table = rw not_zero };
              accepted = λ e. absurd (omega arith);
            };
        node_fits = λ e. absurd (omega arith);
        prop_fits = λ e. absurd (omega arith);
        nodes_counted = λ e. absurd (omega arith);
        props_counted = λ e. absurd (omega arith);
      }

  abbrev accepted : Walk → BlobAnswer
  accepted w = record { number = 0; place = 0; nodes = w.nodes; props = w.props }

  -- 35 or an acceptance
  abbrev space_answer : Walk → BlobAnswer
  space_answer w =
      cond (ltb node_room (3 * w.nodes)) (blob_refused 35 0) (cond (ltb prop_room (5 * w.props)) (blob_refused 35 0) (accepted w))

  abbrev K : ℕ → ℕ → Type 0
  K = Kind blob node_room prop_room

  -- 31 is told where the header is not sound, ..
  claim_header : BlobRule blob node_room prop_room 31 0 → Claimed (blob_refused 31 0)
  claim_header r = claim_refused 31 0 (omega arith) (rule_told r (λ m q s. none (kind s)))
    where
      none : {m q : ℕ} → K m q → m ≤ 31 → (m ≡ 31 → q < 0) → ⊥
      none (Kind.header _) le lt = omega (arith, lt refl)
      none (Kind.blocks _) le lt = omega arith
      none (Kind.structure _) le lt = omega arith
      none (Kind.count _ _) le lt = omega arith
      none (Kind.space _ _) le lt = omega arith

  module _ (header : HeaderSound blob) where
    -- .. then 32, ..
    claim_blocks : BlobRule blob node_room prop_room 32 0 → Claimed (blob_refused 32 0)
    claim_blocks r = claim_refused 32 0 (omega arith) (rule_told r (λ m q s. none (kind s)))
      where
        none : {m q : ℕ} → K m q → m ≤ 32 → (m ≡ 32 → q < 0) → ⊥
        none (Kind.header f) le lt = f header
        none (Kind.blocks _) le lt = omega (arith, lt refl)
        none (Kind.structure _) le lt = omega arith
        none (Kind.count _ _) le lt = omega arith
        none (Kind.space _ _) le lt = omega arith

    module _ (blocks : BlocksSound blob) where
      -- .. then 33, ..
      claim_broken : {p : ℕ} → BrokenAt b p → Claimed (blob_refused 33 p)
      claim_broken {p} broken = claim_refused 33 p (omega arith) (rule_told (BlobRule.blob_structure broken) (λ m q s. none (kind s)))
        where
          none : {m q : ℕ} → K m q → m ≤ 33 → (m ≡ 33 → q < p) → ⊥
          none (Kind.header f) le lt = f header
          none (Kind.blocks f) le lt = f blocks
          none (Kind.structure other) le lt = let less = lt refl in let same = broken_unique other broken in omega arith
          none (Kind.count _ _) le lt = omega arith
          none (Kind.space _ _) le lt = omega arith

      module _ {w : Walk} {tree : Nodes} (is_walk : walk_in b ≡ Ok w) (holds : Holds b tree)
          (counts : tally_of w ≡ tally b.structure (tokens_of tree) no_tally) where
        -- .. then 34, ..
        claim_count : {found : List Nodes} → CpusNodes blob found → (length found ≡ 1 → ⊥) → Claimed (blob_refused 34 0)
        claim_count c ne = claim_refused 34 0 (omega arith) (rule_told (BlobRule.blob_cpus c ne) (λ m q s. none (kind s)))
          where
            none : {m q : ℕ} → K m q → m ≤ 34 → (m ≡ 34 → q < 0) → ⊥
            none (Kind.header f) le lt = f header
            none (Kind.blocks f) le lt = f blocks
            none (Kind.structure broken) le lt = holds_sound holds broken
            none (Kind.count _ _) le lt = omega (arith, lt refl)
            none (Kind.space _ _) le lt = omega arith

        module _ {cpus : Nodes} (among : CpusAmong b.structure (children_of tree) (cpus ∷ [])) where
          abbrev is_cpus : Cpus blob cpus
          is_cpus = record { tree = tree; holds = holds; among = among }

          one : {found : List Nodes} → CpusNodes blob found → length found ≡ 1
          one c = ap length (cpus_unique holds among c)

          -- .. then 35, ..
          claim_space : BlobRule blob node_room prop_room 35 0 → Claimed (blob_refused 35 0)
          claim_space r = claim_refused 35 0 (omega arith) (rule_told r (λ m q s. none (kind s)))
            where
              none : {m q : ℕ} → K m q → m ≤ 35 → (m ≡ 35 → q < 0) → ⊥
              none (Kind.header f) le lt = f header
              none (Kind.blocks f) le lt = f blocks
              none (Kind.structure broken) le lt = holds_sound holds broken
              none (Kind.count c ne) le lt = ne (one c)
              none (Kind.space _ _) le lt = omega (arith, lt refl)

          abbrev words_of_nodes : List ℕ
          words_of_nodes = node_words no_parent 0 cpus

          abbrev words_of_props : List ℕ
          words_of_props = prop_words 0 cpus

          same : {other : Nodes} → Cpus blob other → other ≡ cpus
          same c = head-eq_of_cons-eq (cpus_unique holds among c)

          -- .. and else no rule is broken, ..
          unbroken : length words_of_nodes ≤ node_room → length words_of_props ≤ prop_room → {m q : ℕ} → K m q → ⊥
          unbroken node_fits prop_fits (Kind.header f) = f header
          unbroken node_fits prop_fits (Kind.blocks f) = f blocks
          unbroken node_fits prop_fits (Kind.structure broken) = holds_sound holds broken
          unbroken node_fits prop_fits (Kind.count c ne) = ne (one c)
          unbroken node_fits prop_fits (Kind.space c (inl lt)) = omega (arith, ap (λ (t : Nodes). length (node_words no_parent 0 t)) (same c))
          unbroken node_fits prop_fits (Kind.space c (inr lt)) = omega (arith, ap (λ (t : Nodes). length (prop_words 0 t)) (same c))

          -- .. and the records stand in both tables
          claim_accepted : 3 * w.nodes ≤ node_room → 5 * w.props ≤ prop_room → Claimed (accepted w)
          claim_accepted few_nodes few_props =
              let j = joined holds w counts among in
              let node_fits : length words_of_nodes ≤ node_room = omega (arith, j.2) in
              let prop_fits : length words_of_props ≤ prop_room = omega (arith, j.3) in
              record {
                reading =
                    record {
                      exactly = (λ _ m q s. unbroken node_fits prop_fits (kind s), λ _. refl);
                      refused = λ ne. absurd (ne refl);
                      accepted = λ _. record {
                        place = refl;
                        cpus = cpus;
                        is_cpus = is_cpus;
                        one_tree = λ _ other. holds_unique other holds;
                        only = λ _. same;
                        node_table = rw (is_walk, j.0) (over_fits words_of_nodes nodes node_fits);
                        prop_table = rw (is_walk, j.1) (over_fits words_of_props props prop_fits);
                        node_count = j.2;
                        prop_count = j.3;
                        tables = only_left blob cpus header.not_long is_cpus;
                      };
                    };
                node_fits = λ _. rw (is_walk, j.0) node_fits;
                prop_fits = λ _. rw (is_walk, j.1) prop_fits;
                nodes_counted = λ _. rw (is_walk, j.0) j.2;
                props_counted = λ _. rw (is_walk, j.1) j.3;
              }

          claim_one : Claimed (space_answer w)
          claim_one =
              let j = joined holds w counts among in
              cond_both Claimed (ltb node_room (3 * w.nodes)) (blob_refused 35 0)
              (cond (ltb prop_room (5 * w.props)) (blob_refused 35 0) (accepted w))
              (λ e. claim_space (BlobRule.table_space_nodes is_cpus (omega (arith, j.2, ltb-true node_room (3 * w.nodes) e))))
              λ e. cond_both Claimed (ltb prop_room (5 * w.props)) (blob_refused 35 0) (accepted w)
              (λ f. claim_space (BlobRule.table_space_properties is_cpus (omega (arith, j.3, ltb-true prop_room (5 * w.props) f))))
              λ f. claim_accepted (ltb-false node_room (3 * w.nodes) e) (ltb-false prop_room (5 * w.props) f)

        claim_whole : Claimed (count_answer node_room prop_room w)
        unfolding count_answer
        claim_whole =
            let t = among_total holds in
            let many : w.cpus ≡ length t.0 = how_many holds w counts t.1 in
            cond_both Claimed (eqb w.cpus 1) (space_answer w) (blob_refused 34 0)
            (λ e.
            let s = single t.0 (sym many ∙ eqb-true w.cpus 1 e) in
            claim_one (subst (CpusAmong b.structure (children_of tree)) s.1 t.1))
            λ e. claim_count (record { tree = tree; holds = holds; among = t.1 }) (λ l. eqb-false w.cpus 1 e (many ∙ l))

      -- the structure block ends where its cells say, at a multiple of four
      block_ends : length b.structure ≡ structure_at blob + structure_size blob
      block_ends = length-take-le (structure_at blob + structure_size blob) blob (omega (arith, blocks.structure, header.total_most))

      claim_walk : Claimed (walk_answer node_room prop_room (walk_in b))
      claim_walk =
          go (walk_in b) refl
          (walk_all b blocks.offset (omega (arith, block_ends, blocks.offset, blocks.size)) (omega (arith, block_ends)))
        where
          go : (r : Result Walk ℕ) → walk_in b ≡ r → Tells b r → Claimed (walk_answer node_room prop_room r)
          go (Err p) e broken = claim_broken broken
          go (Ok w) e h = claim_whole e h.1 h.2

  claim_blob : Claimed (blob_answer blob node_room prop_room)
  unfolding blob_answer
  claim_blob =
      let walked = walk_answer node_room prop_room (walk_in b) in
      cond_both Claimed (eqb (header_fault blob) 0) (cond (eqb (blocks_fault blob) 0) walked (blob_refused 32 0)) (blob_refused 31 0)
      (λ e. let sound = verdict_sound (header_verdict blob node_room prop_room) (eqb-true (header_fault blob) 0 e) in
      cond_both Claimed (eqb (blocks_fault blob) 0) walked (blob_refused 32 0)
      (λ f. claim_walk sound (verdict_sound (blocks_verdict blob node_room prop_room) (eqb-true (blocks_fault blob) 0 f)))
      λ f. claim_blocks sound (verdict_broken (blocks_verdict blob node_room prop_room) (eqb-false (blocks_fault blob) 0 f)))
      λ e. claim_header (verdict_broken (header_verdict blob node_room prop_room) (eqb-false (header_fault blob) 0 e))

  pub claim :
      BlobReading blob nodes props (blob_answer blob node_room prop_room) (nodes_after blob nodes prop_room) (props_after blob node_room props)
  unfolding nodes_after props_after
  claim = claim_blob.reading

  -- what the reader leaves in the tables
  pub after_refused :
      ((blob_answer blob node_room prop_room).number ≡ 0 → ⊥) → (nodes_after blob nodes prop_room ≡ nodes) × (props_after blob node_room props ≡ props)
  unfolding nodes_after props_after
  after_refused ne = let e = ne_eqb (blob_answer blob node_room prop_room).number 0 ne in (rw e, rw e)

  -- and the room that it has
  pub room :
      (blob_answer blob node_room prop_room).number ≡ 0 → (length (filled_in b).nodes ≤ node_room) × (length (filled_in b).props ≤ prop_room)
  room z = (claim_blob.node_fits z, claim_blob.prop_fits z)

  -- how many words there are of each
  pub counted :
      let answer = blob_answer blob node_room prop_room in
      answer.number ≡ 0 → (3 * answer.nodes ≡ length (filled_in b).nodes) × (5 * answer.props ≡ length (filled_in b).props)
  counted z = (claim_blob.nodes_counted z, claim_blob.props_counted z)
