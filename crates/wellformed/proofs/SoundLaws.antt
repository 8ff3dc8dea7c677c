-- SPDX-License-Identifier: BSD-2-Clause OR GPL-2.0-or-later
-- What each test of the check of rules 1 to 8 decides: what the tables then have, or the rule that they break. Assumes nothing.
use mathlib.Core.Path.{◌≡◌, refl}
use mathlib.Core.Bool.{Bool, true, false, cond}
use mathlib.Core.Logic.{◌⊎◌, inl, inr, ⊎_elim}
use mathlib.Core.List.{List}
use Prim.Native.Nat.{ℕ, zero, suc, ◌+◌, ◌*◌, ◌%◌, ◌≤◌, ◌<◌}
use native.Mathlib.Omega.{arith}
use lib.Dec.{ltb, leb, eqb}
use lib.ListN.{length}
use borrow.Author.Tests.{ltb-true, ltb-false, le-leb, leb-true, eq-eqb, eqb-true, eqb-false}
use Rattle.laws.specs.answers.Search.{any_below}
use Rattle.laws.proofs.SearchLaws.{any_at, any_place, true_false}
use Rattle.laws.proofs.SameLaws.{same_refl, same_equal}
use Rattle.laws.proofs.TestLaws.{both_true}
use Rattle.laws.proofs.VerdictLaws.{Verdict}
use Rattle.laws.specs.facts.Limits.{max_node_name, max_property_name, no_parent, max_nodes, max_properties, max_pool}
use Rattle.tables.specs.facts.Board.{Board, Inside, node_count, parent_word, name_offset, name_length, prop_count, prop_node, prop_name, key_offset}
use Rattle.tables.specs.facts.Board.{key_length, value_offset, value_length, arm32, arm64, riscv, BoardNumber}
use Rattle.tables.specs.answers.Tree.{is_below}
use Rattle.tables.specs.facts.Tree.{Ancestor}
use Rattle.wellformed.specs.facts.Rules.{TableRule}
use Rattle.records.specs.answers.Check.{sound_name, sound_parent, node_fault, sound_words, sound_property, same_property, property_fault}
use Rattle.wellformed.specs.answers.Check.{width_fault, node_words_fault, prop_words_fault, pool_fault}
use Rattle.tables.proofs.DepthLaws.{below_test, not_below_test}

-- a test that is true where P holds and false where Q does
data Decides (P Q : Type 0) : Bool → Type 0 where
  holds : P → Decides P Q true
  fails : Q → Decides P Q false

-- the number told of two rules at a place, m before n
pub data Verdicts (b : Board) (m n q : ℕ) (P Q : Type 0) : ℕ → Type 0 where
  first : TableRule b m q → Verdicts b m n q P Q m
  second : {v : ℕ} → P → Verdict (TableRule b) n q Q v → Verdicts b m n q P Q v

module _ {b : Board} {q : ℕ} {P : Type 0} where
  -- a number told where a test fails, where it holds, or before another number
  told_unless : {n : ℕ} {t : Bool} → Decides P (TableRule b n q) t → Verdict (TableRule b) n q P (cond t 0 n)
  told_unless (Decides.holds p) = Verdict.sound p
  told_unless (Decides.fails r) = Verdict.broken r

  told_when : {n : ℕ} {t : Bool} → Decides (TableRule b n q) P t → Verdict (TableRule b) n q P (cond t n 0)
  told_when (Decides.holds r) = Verdict.broken r
  told_when (Decides.fails p) = Verdict.sound p

  told_before :
      {m n v : ℕ} {Q : Type 0} {t : Bool} →
      Decides P (TableRule b m q) t →
      Verdict (TableRule b) n q Q v →
      Verdicts b m n q P Q (cond t v m)
  told_before (Decides.holds p) s = Verdicts.second p s
  told_before (Decides.fails r) s = Verdicts.first r

-- a name of 1 to `most` bytes inside the pool
pub record Name (pool : List ℕ) (most offset len : ℕ) : Type 0 where
  pub some : 1 ≤ len
  pub short : len ≤ most
  pub inside : Inside pool offset len

abbrev BadName : List ℕ → ℕ → ℕ → ℕ → Type 0
BadName pool most offset len = ((len ≡ 0) ⊎ (most < len)) ⊎ (Inside pool offset len → ⊥)

name_decides :
    (pool : List ℕ) (most offset len : ℕ) →
    Decides (Name pool most offset len) (BadName pool most offset len) (sound_name (length pool) most offset len)
unfolding sound_name
name_decides pool most offset len = go (eqb len 0) refl (ltb most len) refl (leb (offset + len) (length pool)) refl
  where
    go :
        (t : Bool) →
        eqb len 0 ≡ t →
        (u : Bool) →
        ltb most len ≡ u →
        (v : Bool) →
        leb (offset + len) (length pool) ≡ v →
        Decides (Name pool most offset len) (BadName pool most offset len) (cond t false (cond u false v))
    go true e u f v g = Decides.fails (inl (inl (eqb-true len 0 e)))
    go false e true f v g = Decides.fails (inl (inr (ltb-true most len f)))
    go false e false f false g = Decides.fails (inr (λ h. true_false (le-leb _ _ h) g))
    go false e false f true g =
        let ne = eqb-false len 0 e in
        Decides.holds (record { some = omega arith; short = ltb-false most len f; inside = leb-true (offset + len) (length pool) g })

-- Rules 1 to 4.
module _ (b : Board) where
  pub width_told : Verdict (TableRule b) 1 0 (BoardNumber b.width) (width_fault b.width)
  width_told = go (eqb b.width arm32) refl (eqb b.width arm64) refl (eqb b.width riscv) refl
    where
      go :
          (t : Bool) →
          eqb b.width arm32 ≡ t →
          (u : Bool) →
          eqb b.width arm64 ≡ u →
          (v : Bool) →
          eqb b.width riscv ≡ v →
          Verdict (TableRule b) 1 0 (BoardNumber b.width) (cond t 0 (cond u 0 (cond v 0 1)))
      go true e u f v g = Verdict.sound (inl (eqb-true b.width arm32 e))
      go false e true f v g = Verdict.sound (inr (inl (eqb-true b.width arm64 f)))
      go false e false f true g = Verdict.sound (inr (inr (eqb-true b.width riscv g)))
      go false e false f false g =
          Verdict.broken
          (TableRule.board_width (⊎_elim (eqb-false b.width arm32 e) (⊎_elim (eqb-false b.width arm64 f) (eqb-false b.width riscv g))))

  abbrev pub NodeWords : Type 0
  NodeWords = (1 ≤ node_count b.nodes) × (node_count b.nodes ≤ max_nodes) × (length b.nodes ≡ 3 * node_count b.nodes)

  pub nodes_told : Verdict (TableRule b) 2 0 NodeWords (node_words_fault (length b.nodes))
  nodes_told = go (eqb (words % 3) 0) refl (eqb words 0) refl (ltb (3 * max_nodes) words) refl
    where
      words : ℕ
      words = length b.nodes

      go :
          (t : Bool) →
          eqb (words % 3) 0 ≡ t →
          (u : Bool) →
          eqb words 0 ≡ u →
          (v : Bool) →
          ltb (3 * max_nodes) words ≡ v →
          Verdict (TableRule b) 2 0 NodeWords (cond t (cond u 2 (cond v 2 0)) 2)
      go false e u f v g = Verdict.broken (TableRule.node_table_part (eqb-false (words % 3) 0 e))
      go true e true f v g = let z = eqb-true words 0 f in Verdict.broken (TableRule.node_table_empty (omega arith))
      go true e false f true g =
          let l = ltb-true (3 * max_nodes) words g in let z = eqb-true (words % 3) 0 e in Verdict.broken (TableRule.node_table_many (omega arith))
      go true e false f false g =
          let z = eqb-true (words % 3) 0 e in
          let ne = eqb-false words 0 f in
          let l = ltb-false (3 * max_nodes) words g in
          Verdict.sound (omega arith, omega arith, omega arith)

  abbrev pub PropWords : Type 0
  PropWords = (prop_count b.props ≤ max_properties) × (length b.props ≡ 5 * prop_count b.props)

  pub props_told : Verdict (TableRule b) 3 0 PropWords (prop_words_fault (length b.props))
  props_told = go (eqb (words % 5) 0) refl (ltb (5 * max_properties) words) refl
    where
      words : ℕ
      words = length b.props

      go :
          (t : Bool) →
          eqb (words % 5) 0 ≡ t →
          (v : Bool) →
          ltb (5 * max_properties) words ≡ v →
          Verdict (TableRule b) 3 0 PropWords (cond t (cond v 3 0) 3)
      go false e v g = Verdict.broken (TableRule.property_table_part (eqb-false (words % 5) 0 e))
      go true e true g =
          let l = ltb-true (5 * max_properties) words g in
          let z = eqb-true (words % 5) 0 e in
          Verdict.broken (TableRule.property_table_many (omega arith))
      go true e false g =
          let z = eqb-true (words % 5) 0 e in
          let l = ltb-false (5 * max_properties) words g in
          Verdict.sound (omega arith, omega arith)

  pub pool_told : Verdict (TableRule b) 4 0 (length b.pool ≤ max_pool) (pool_fault (length b.pool))
  pool_told = go (ltb max_pool (length b.pool)) refl
    where
      go : (t : Bool) → ltb max_pool (length b.pool) ≡ t → Verdict (TableRule b) 4 0 (length b.pool ≤ max_pool) (cond t 4 0)
      go true e = Verdict.broken (TableRule.pool_size (ltb-true max_pool (length b.pool) e))
      go false e = Verdict.sound (ltb-false max_pool (length b.pool) e)

-- Rules 5 and 6, of a node record.
module _ (b : Board) where
  -- record i has a sound name
  abbrev pub NodeName : ℕ → Type 0
  NodeName i = Name b.pool max_node_name (name_offset b.nodes i) (name_length b.nodes i)

  node_name_decides :
      (i : ℕ) →
      i < node_count b.nodes →
      Decides (NodeName i) (TableRule b 5 i) (sound_name (length b.pool) max_node_name (name_offset b.nodes i) (name_length b.nodes i))
  node_name_decides i lt = go (name_decides b.pool max_node_name (name_offset b.nodes i) (name_length b.nodes i))
    where
      go :
          {t : Bool} →
          Decides (NodeName i) (BadName b.pool max_node_name (name_offset b.nodes i) (name_length b.nodes i)) t →
          Decides (NodeName i) (TableRule b 5 i) t
      go (Decides.holds p) = Decides.holds p
      go (Decides.fails h) = Decides.fails (⊎_elim (TableRule.node_name_length i lt) (TableRule.node_name_range i lt) h)

  -- record i keeps the depth-first rule
  abbrev pub NodeParent : ℕ → Type 0
  NodeParent zero = parent_word b.nodes 0 ≡ no_parent
  NodeParent (suc i) = (parent_word b.nodes (suc i) ≡ i) ⊎ Ancestor b.nodes (parent_word b.nodes (suc i)) i

  parent_decides : (i : ℕ) → i < node_count b.nodes → Decides (NodeParent i) (TableRule b 6 i) (sound_parent b.nodes i)
  unfolding sound_parent
  parent_decides zero lt = go (eqb (parent_word b.nodes 0) no_parent) refl
    where
      go : (t : Bool) → eqb (parent_word b.nodes 0) no_parent ≡ t → Decides (NodeParent 0) (TableRule b 6 0) t
      go true e = Decides.holds (eqb-true (parent_word b.nodes 0) no_parent e)
      go false e = Decides.fails (TableRule.node_parent_root lt (eqb-false (parent_word b.nodes 0) no_parent e))
  parent_decides (suc i) lt = go (eqb parent i) refl (is_below b.nodes i parent) refl
    where
      parent : ℕ
      parent = parent_word b.nodes (suc i)

      go :
          (t : Bool) →
          eqb parent i ≡ t →
          (u : Bool) →
          is_below b.nodes i parent ≡ u →
          Decides (NodeParent (suc i)) (TableRule b 6 (suc i)) (cond t true u)
      go true e u f = Decides.holds (inl (eqb-true parent i e))
      go false e true f = Decides.holds (inr ((below_test parent i).0 f))
      go false e false f = Decides.fails (TableRule.node_parent_order i lt (eqb-false parent i e) ((not_below_test parent i).0 f))

  pub node_told : (i : ℕ) → i < node_count b.nodes → Verdicts b 5 6 i (NodeName i) (NodeParent i) (node_fault b.nodes (length b.pool) i)
  unfolding node_fault
  node_told i lt = told_before (node_name_decides i lt) (told_unless (parent_decides i lt))

-- Rules 7 and 8, of a property record.
module _ (b : Board) where
  -- record k has a node, a sound name, and a value inside the pool
  pub record SoundProperty (k : ℕ) : Type 0 where
    pub node : prop_node b.props k < node_count b.nodes
    pub name : Name b.pool max_property_name (key_offset b.props k) (key_length b.props k)
    pub value : Inside b.pool (value_offset b.props k) (value_length b.props k)

  property_decides :
      (k : ℕ) →
      k < prop_count b.props →
      Decides (SoundProperty k) (TableRule b 7 k) (sound_property (node_count b.nodes) b.props (length b.pool) k)
  unfolding sound_property sound_words
  property_decides k lt =
      go
      (ltb (prop_node b.props k) (node_count b.nodes))
      refl
      (name_decides b.pool max_property_name (key_offset b.props k) (key_length b.props k))
      (leb (value_offset b.props k + value_length b.props k) (length b.pool))
      refl
    where
      go :
          (t : Bool) →
          ltb (prop_node b.props k) (node_count b.nodes) ≡ t →
          {u : Bool} →
          Decides (Name b.pool max_property_name (key_offset b.props k) (key_length b.props k))
          (BadName b.pool max_property_name (key_offset b.props k) (key_length b.props k)) u →
          (v : Bool) →
          leb (value_offset b.props k + value_length b.props k) (length b.pool) ≡ v →
          Decides (SoundProperty k) (TableRule b 7 k) (cond t (cond u v false) false)
      go false e h v g = Decides.fails (TableRule.property_node k lt (ltb-false _ _ e))
      go true e (Decides.fails h) v g = Decides.fails (⊎_elim (TableRule.property_name_length k lt) (TableRule.property_name_range k lt) h)
      go true e (Decides.holds p) false g = Decides.fails (TableRule.property_value_range k lt (λ h. true_false (le-leb _ _ h) g))
      go true e (Decides.holds p) true g = Decides.holds (record { node = ltb-true _ _ e; name = p; value = leb-true _ _ g })

  -- no earlier record has the node and the name of record k
  abbrev pub NoRepeat : ℕ → Type 0
  NoRepeat k = (j : ℕ) → j < k → prop_node b.props j ≡ prop_node b.props k → prop_name b j ≡ prop_name b k → ⊥

  same_true :
      (k j : ℕ) → same_property b.props b.pool k j ≡ true → (prop_node b.props j ≡ prop_node b.props k) × (prop_name b j ≡ prop_name b k)
  unfolding same_property
  same_true k j h =
      let t = both_true (eqb (prop_node b.props j) (prop_node b.props k)) h in
      (eqb-true _ _ t.0, same_equal (prop_name b j) (prop_name b k) t.1)

  true_same : (k j : ℕ) → prop_node b.props j ≡ prop_node b.props k → prop_name b j ≡ prop_name b k → same_property b.props b.pool k j ≡ true
  unfolding same_property
  true_same k j e n = rw (eq-eqb (prop_node b.props j) (prop_node b.props k) e, n) (same_refl (prop_name b k))

  repeat_decides : (k : ℕ) → k < prop_count b.props → Decides (TableRule b 8 k) (NoRepeat k) (any_below (same_property b.props b.pool k) k)
  repeat_decides k lt = go (any_below test k) refl
    where
      test : ℕ → Bool
      test = same_property b.props b.pool k

      go : (t : Bool) → any_below test k ≡ t → Decides (TableRule b 8 k) (NoRepeat k) t
      go true e =
          let place = any_place test k e in
          let s = same_true k place.0 place.2 in
          Decides.holds (TableRule.duplicate_property place.0 k place.1 lt s.0 s.1)
      go false e = Decides.fails (λ j l n m. true_false (any_at test j k l (true_same k j n m)) e)

  pub property_told :
      (k : ℕ) →
      k < prop_count b.props →
      Verdicts b 7 8 k (SoundProperty k) (NoRepeat k) (property_fault (node_count b.nodes) b.props b.pool k)
  unfolding property_fault
  property_told k lt = told_before (property_decides k lt) (told_when (repeat_decides k lt))
