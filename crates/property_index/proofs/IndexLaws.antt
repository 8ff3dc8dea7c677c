-- SPDX-License-Identifier: BSD-2-Clause OR GPL-2.0-or-later
-- The index of properties tells what a lookup finds. Assumes nothing.
use Rattle.std.specs.Prelude.{None, Option, Some}
use Rattle.tables.specs.declared.Found.{Found}
use mathlib.Core.Path.{◌≡◌, refl, ap, ◌∙◌}
use mathlib.Core.Bool.{Bool, true, false, cond}
use mathlib.Core.Logic.{◌⊎◌, inl, ⊎_elim}
use mathlib.Core.List.{List}
use Prim.Native.Nat.{ℕ, zero, suc, ◌+◌, ◌*◌, ◌≤◌, ◌<◌, min}
use native.Mathlib.Omega.{arith}
use lib.Dec.{ltb}
use lib.ListN.{get_or, replicate, length-replicate, get_or-replicate, get_or-eq_default}
use borrow.Author.Tests.{ne_eqb, lt-ltb, le-ltb, ltb-true}
use Rattle.laws.specs.answers.Search.{lowest}
use Rattle.laws.proofs.SearchLaws.{lt_or_le}
use Rattle.laws.specs.facts.Limits.{max_nodes, max_properties}
use Rattle.tables.specs.facts.Board.{Board, board, prop_count, prop_node, key_offset, key_length}
use Rattle.tables.specs.facts.Property.{found_at}
use Rattle.tables.specs.answers.Lookup.{is_property, found_below, lookup, record_of}
use Rattle.lookup.specs.facts.Finds.{LowestInside}
use Rattle.lookup.proofs.FindsLaws.{inside_unique, inside_finds, lookup_inside}
use Rattle.property_index.specs.declared.Key.{Key}
use Rattle.property_index.specs.facts.Key.{key_name, key_number}
use Rattle.property_index.specs.facts.Index.{Noted, IndexOf, Indexes, FindsBy}
use Rattle.property_index.specs.answers.Index.{indexed_below, indexed, lookup_in, indexed_at, AsLookup}
use Rattle.property_index.proofs.KeyLaws.{number_lt, key_is}
use Rattle.property_index.proofs.NoteLaws.{first_word, keys_length, noted_word}

-- a word of the table: one more than the lowest place below n that passes, 0 where none does
abbrev lowest_word : (ℕ → Bool) → ℕ → ℕ
lowest_word p n = cond (ltb (lowest p n) n) (suc (lowest p n)) 0

word_more : (p : ℕ → Bool) (n : ℕ) → cond (p n) (first_word (lowest_word p n) n) (lowest_word p n) ≡ lowest_word p (suc n)
unfolding lowest
word_more p n = go (ltb (lowest p n) n) refl (p n)
  where
    go :
        (t : Bool) → ltb (lowest p n) n ≡ t → (d : Bool) →
        cond d (first_word (cond t (suc (lowest p n)) 0) n) (cond t (suc (lowest p n)) 0)
        ≡ cond (ltb (cond t (lowest p n) (cond d n (suc n))) (suc n)) (suc (cond t (lowest p n) (cond d n (suc n)))) 0
    go true e true = rw (ne_eqb (suc (lowest p n)) 0 (λ z. omega arith), lt-ltb (lowest p n) (suc n) (omega (arith, ltb-true (lowest p n) n e)))
    go true e false = rw (lt-ltb (lowest p n) (suc n) (omega (arith, ltb-true (lowest p n) n e)))
    go false e true = rw (lt-ltb n (suc n) (omega arith)) (omega arith)
    go false e false = rw (le-ltb (suc n) (suc n) (omega arith))

word_found : (props : List ℕ) (p : ℕ → Bool) (n : ℕ) → lookup_in props (lowest_word p n) ≡ found_below props n (lowest p n)
word_found props p n = go (ltb (lowest p n) n)
  where
    go : (t : Bool) → lookup_in props (cond t (suc (lowest p n)) 0) ≡ cond t (Some (found_at props (lowest p n))) None
    go true = refl
    go false = refl

-- the table that properties are noted in
abbrev blank : List ℕ
blank = replicate (4 * max_nodes) 0

empty : (j : ℕ) → get_or blank j 0 ≡ 0
empty j =
    ⊎_elim (λ lt. get_or-replicate {A = ℕ} 4096 j 0 0 lt)
    (λ le. get_or-eq_default blank 0 {n = j} (omega (arith, length-replicate {A = ℕ} 4096 0)))
    (lt_or_le j 4096)

-- a table of zeros with all properties noted; record i is below 1,024, or all properties' records are
module _
    (props pool : List ℕ)
    (few : prop_count props ≤ max_properties)
    (i : ℕ)
    (key : Key)
    (low : (k : ℕ) → k < prop_count props → (i < max_nodes) ⊎ (prop_node props k < max_nodes))
  where
    abbrev index : ℕ → List ℕ
    index n = indexed_below blank props pool n

    abbrev test : ℕ → Bool
    test = is_property props pool i (key_name key)

    word : (n : ℕ) → n ≤ prop_count props → get_or (index n) (4 * i + key_number key) 0 ≡ lowest_word test n
    unfolding indexed_below lowest is_property
    word zero le = empty (4 * i + key_number key)
    word (suc n) le =
        let offset = key_offset props n in
        let len = key_length props n in
        noted_word (index n) pool (prop_node props n) offset len n i (key_number key)
        (keys_length blank props pool n ∙ length-replicate {A = ℕ} 4096 0) (low n le) (number_lt key)
        ∙ rw (key_is pool offset len key, word n (omega arith)) (word_more test n)

    pub index_finds : indexed_at props (indexed blank props pool) i key ≡ lookup props pool i (key_name key)
    unfolding lookup indexed_at
    index_finds =
        let all : min (prop_count props) max_properties ≡ prop_count props = omega arith in
        rw (all, word (prop_count props) (omega arith)) (word_found props test (prop_count props))

-- what a word tells, and the word that a lookup tells
module _ (b : Board) (i : ℕ) (key : List ℕ) where
  noted_inside : {w : ℕ} → Noted b i key w → LowestInside b i key (lookup_in b.props w)
  noted_inside (Noted.property h) = LowestInside.found h
  noted_inside (Noted.none h) = LowestInside.missing h

  inside_noted : {answer : Option Found} (w : ℕ) → lookup_in b.props w ≡ answer → LowestInside b i key answer → Noted b i key w
  inside_noted zero e (LowestInside.found h) = let z : ◌≡◌ {A = ℕ} 0 1 = cc in absurd (omega arith)
  inside_noted zero e (LowestInside.missing none) = Noted.none none
  inside_noted (suc w) e (LowestInside.found {k} h) = let same : w ≡ k = ap record_of e in rw same (Noted.property h)
  inside_noted (suc w) e (LowestInside.missing none) = let z : ◌≡◌ {A = ℕ} 0 1 = cc in absurd (omega arith)

pub blank_indexes : (before props pool : List ℕ) → Indexes before props pool (indexed before props pool)
unfolding indexed_at
blank_indexes before props pool zeros few width nodes i lt key =
    let b = board width nodes props pool in
    rw zeros
    (inside_noted b i (key_name key) _ (index_finds props pool few i key (λ _ _. inl lt)) (lookup_inside b i (key_name key)))

module _ (props table : List ℕ) (i : ℕ) (key : Key) where
  -- the answer of an index is the lowest match inside the pool
  answer_inside :
      (width : ℕ) (nodes pool : List ℕ) →
      let b = board width nodes props pool in
      IndexOf b table → i < max_nodes → LowestInside b i (key_name key) (indexed_at props table i key)
  unfolding indexed_at
  answer_inside width nodes pool made lt = noted_inside (board width nodes props pool) i (key_name key) (made i lt key)

  -- what equals the definition meets the contract
  pub index_meets :
      {answer : Option Found} →
      answer ≡ indexed_at props table i key →
      (answer ≡ indexed_at props table i key) × (AsLookup props table i key answer × FindsBy props table i key answer)
  index_meets e = (
    e,
    (
      λ width nodes pool made lt.
          let b = board width nodes props pool in
          e ∙ inside_unique b i (key_name key) (answer_inside width nodes pool made lt) (lookup_inside b i (key_name key)),
      λ width nodes pool made lt. rw e (inside_finds _ i (key_name key) (answer_inside width nodes pool made lt)),
    ),
  )
