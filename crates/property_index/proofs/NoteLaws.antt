-- SPDX-License-Identifier: BSD-2-Clause OR GPL-2.0-or-later
-- A property noted in a table: the words of the table after it. Assumes nothing.
use mathlib.Core.Path.{◌≡◌, refl, ◌∙◌}
use mathlib.Core.Bool.{Bool, true, false, cond}
use mathlib.Core.Logic.{◌⊎◌, ⊎_elim}
use mathlib.Core.List.{List}
use Prim.Native.Nat.{ℕ, zero, suc, ◌+◌, ◌*◌, ◌<◌}
use native.Mathlib.Omega.{arith}
use lib.Dec.{ltb, eqb}
use lib.ListN.{length, get_or, set, length-set}
use lib.Seq.{get_or-set_same, get_or-set_other}
use borrow.Author.Tests.{lt-ltb, ltb-true, ltb-false, eqb-true, eq-eqb, ne_eqb}
use Rattle.laws.proofs.SearchLaws.{true_false}
use Rattle.laws.proofs.TestLaws.{both_true}
use Rattle.laws.specs.facts.Limits.{max_nodes}
use Rattle.tables.specs.facts.Board.{prop_node, key_offset, key_length}
use Rattle.property_index.specs.answers.Index.{key_of, noted, noted_key, indexed_below}

-- a table keeps its length
length_cond : (t : Bool) (a b : List ℕ) (n : ℕ) → length a ≡ n → length b ≡ n → length (cond t a b) ≡ n
length_cond true a b n e f = e
length_cond false a b n e f = f

noted_length : (table : List ℕ) (at k : ℕ) → length (noted table at k) ≡ length table
unfolding noted
noted_length table at k = length_cond (eqb (get_or table at 0) 0) _ _ _ (length-set table at (k + 1)) refl

pub keys_length : (table props pool : List ℕ) (n : ℕ) → length (indexed_below table props pool n) ≡ length table
unfolding indexed_below noted_key
keys_length table props pool zero = refl
keys_length table props pool (suc k) =
    let before = keys_length table props pool k in
    length_cond (ltb (prop_node props k) max_nodes) _ _ _
    (length_cond (ltb (key_of pool (key_offset props k) (key_length props k)) 4) _ _ _ (noted_length _ _ k ∙ before) before) before

-- the word at a place where property k is noted
abbrev pub first_word : ℕ → ℕ → ℕ
first_word old k = cond (eqb old 0) (k + 1) old

module _ (table : List ℕ) (at k : ℕ) where
  noted_here : at < length table → get_or (noted table at k) at 0 ≡ first_word (get_or table at 0) k
  unfolding noted
  noted_here inside = go (eqb (get_or table at 0) 0)
    where
      go : (t : Bool) → get_or (cond t (set table at (k + 1)) table) at 0 ≡ cond t (k + 1) (get_or table at 0)
      go true = get_or-set_same table at (k + 1) 0 inside
      go false = refl

  noted_elsewhere : (place : ℕ) → (place ≡ at → ⊥) → get_or (noted table at k) place 0 ≡ get_or table place 0
  unfolding noted
  noted_elsewhere place other = go (eqb (get_or table at 0) 0)
    where
      go : (t : Bool) → get_or (cond t (set table at (k + 1)) table) place 0 ≡ get_or table place 0
      go true = get_or-set_other table at place (k + 1) 0 other
      go false = refl

-- the word of record i and key number n, after property k of a record was noted; one of the two records is below 1,024
module _
    (table pool : List ℕ)
    (node offset len k i n : ℕ)
    (size : length table ≡ 4 * max_nodes)
    (low : (i < max_nodes) ⊎ (node < max_nodes))
    (small : n < 4)
  where
    abbrev place : ℕ
    place = 4 * i + n

    abbrev key : ℕ
    key = key_of pool offset len

    -- whether the word is that of the property
    abbrev own : Bool
    own = cond (eqb node i) (eqb key n) false

    within : node ≡ i → i < max_nodes
    within e = ⊎_elim (λ lt. lt) (λ lt. omega arith) low

    noted_own : own ≡ true → get_or (cond (ltb key 4) (noted table (4 * node + key) k) table) place 0 ≡ first_word (get_or table place 0) k
    noted_own e =
        let b = both_true (eqb node i) e in
        let same_node = eqb-true node i b.0 in
        let same_key = eqb-true key n b.1 in
        let here : 4 * node + key ≡ place = omega arith in
        rw (lt-ltb key 4 (omega arith), here) (noted_here table place k (omega (arith, within same_node)))

    noted_other : own ≡ false → get_or (cond (ltb key 4) (noted table (4 * node + key) k) table) place 0 ≡ get_or table place 0
    noted_other e = go (ltb key 4) refl
      where
        apart : ltb key 4 ≡ true → place ≡ 4 * node + key → ⊥
        apart l q = let lt = ltb-true key 4 l in true_false (rw (eq-eqb node i (omega arith)) (eq-eqb key n (omega arith))) e

        go : (t : Bool) → ltb key 4 ≡ t → get_or (cond t (noted table (4 * node + key) k) table) place 0 ≡ get_or table place 0
        go true l = noted_elsewhere table (4 * node + key) k place (apart l)
        go false l = refl

    pub noted_word : get_or (noted_key table pool node offset len k) place 0 ≡ cond own (first_word (get_or table place 0) k) (get_or table place 0)
    unfolding noted_key
    noted_word = go (ltb node max_nodes) refl
      where
        below :
            (t : Bool) →
            own ≡ t →
            get_or (cond (ltb key 4) (noted table (4 * node + key) k) table) place 0 ≡ cond t (first_word (get_or table place 0) k) (get_or table place 0)
        below true e = noted_own e
        below false e = noted_other e

        go :
            (t : Bool) →
            ltb node max_nodes ≡ t →
            get_or (cond t (cond (ltb key 4) (noted table (4 * node + key) k) table) table) place 0
            ≡ cond own (first_word (get_or table place 0) k) (get_or table place 0)
        go true e = below own refl
        go false e = rw (ne_eqb node i (λ q. omega (arith, within q, ltb-false node max_nodes e)))
