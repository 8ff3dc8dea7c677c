-- SPDX-License-Identifier: BSD-2-Clause OR GPL-2.0-or-later
-- Rules 7 and 8 of a property, one earlier property at a time. Assumes nothing.
use mathlib.Core.Path.{◌≡◌, refl, sym, ap₂, ◌∙◌}
use mathlib.Core.Bool.{Bool, true, false, cond}
use mathlib.Core.List.{List}
use Prim.Native.Nat.{ℕ, ◌+◌, ◌-◌, ◌≤◌, ◌<◌}
use native.Mathlib.Omega.{arith}
use lib.Dec.{ltb, leb, eqb}
use lib.ListN.{length}
use borrow.Author.Tests.{le-leb, leb-true}
use Rattle.laws.specs.answers.Fault.{clear, first_fault}
use Rattle.laws.specs.answers.Same.{same_list}
use Rattle.laws.specs.answers.Search.{any_below}
use Rattle.laws.proofs.FaultLaws.{below_clear}
use Rattle.laws.proofs.SearchLaws.{true_false, any_at}
use Rattle.laws.proofs.TestLaws.{both_true}
use Rattle.laws.specs.facts.Limits.{max_property_name}
use Rattle.tables.specs.facts.Board.{range, prop_node, key_offset, key_length, value_offset, value_length}
use Rattle.tables.specs.answers.Range.{range_is}
use Rattle.tables.specs.answers.Lookup.{is_property}
use Rattle.records.specs.answers.Check.{sound_name, sound_words, sound_property, same_property, property_fault}

-- a test after two that fail
third : (a b c : Bool) → cond a false (cond b false c) ≡ true → c ≡ true
third true b c h = true_false h refl
third false true c h = true_false h refl
third false false c h = h

name_inside : (bytes most offset len : ℕ) → sound_name bytes most offset len ≡ true → offset + len ≤ bytes
unfolding sound_name
name_inside bytes most offset len h = leb-true _ _ (third (eqb len 0) (ltb most len) (leb (offset + len) bytes) h)

module _ (count : ℕ) (props pool : List ℕ) where
  pub sound_inside : (k : ℕ) → sound_property count props (length pool) k ≡ true → key_offset props k + key_length props k ≤ length pool
  unfolding sound_property sound_words
  sound_inside k h =
      let named = sound_name (length pool) max_property_name (key_offset props k) (key_length props k) in
      name_inside _ _ _ _ (both_true named (both_true (ltb (prop_node props k) count) h).1).0

  -- rule 7 tested by the five words of property k
  pub words_sound :
      (k : ℕ) {node start len value size : ℕ} {r : Bool} →
      r ≡ sound_words count (length pool) node start len value size →
      node ≡ prop_node props k →
      start ≡ key_offset props k →
      len ≡ key_length props k →
      value ≡ value_offset props k →
      size ≡ value_length props k →
      r ≡ sound_property count props (length pool) k
  unfolding sound_property
  words_sound k test n s l v z = cc

  pub fault_seven : (k : ℕ) → sound_property count props (length pool) k ≡ false → 7 ≡ property_fault count props pool k
  unfolding property_fault
  fault_seven k h = rw h

  pub fault_eight :
      (k j : ℕ) →
      sound_property count props (length pool) k ≡ true →
      j < k →
      same_property props pool k j ≡ true →
      8 ≡ property_fault count props pool k
  unfolding property_fault
  fault_eight k j h lt e = rw (h, any_at (same_property props pool k) j k lt e)

  pub fault_none :
      (k : ℕ) →
      sound_property count props (length pool) k ≡ true →
      any_below (same_property props pool k) k ≡ false →
      0 ≡ property_fault count props pool k
  unfolding property_fault
  fault_none k h e = rw (h, e)

  sound_clear : (k : ℕ) → property_fault count props pool k ≡ 0 → sound_property count props (length pool) k ≡ true
  sound_clear k h = go (sound_property count props (length pool) k) refl
    where
      go : (t : Bool) → sound_property count props (length pool) k ≡ t → t ≡ true
      go true e = refl
      go false e = absurd (omega (arith, fault_seven k e))

  -- with no fault below k, the test of an earlier property by the node and the name of property k, and its result r
  pub same_name :
      (k j : ℕ) {node start len : ℕ} {r : Bool} →
      first_fault (property_fault count props pool) k ≡ clear →
      j < k →
      node ≡ prop_node props k →
      start ≡ key_offset props k →
      len ≡ key_length props k →
      is_property props pool node (range pool start (start + len - start)) j ≡ r →
      same_property props pool k j ≡ r
  unfolding is_property range_is same_property
  same_name k j {node} {start} {len} none lt n s l test =
      let inside = sound_inside j (sound_clear j (below_clear (property_fault count props pool) k none j lt)) in
      let size : start + len - start ≡ len = omega arith in
      sym
      (ap₂ (λ (x : ℕ) (name : List ℕ). cond (eqb (prop_node props j) x) (same_list (range pool (key_offset props j) (key_length props j)) name) false)
      n
      (ap₂ (range pool) s l))
      ∙ rw (le-leb (key_offset props j + key_length props j) (length pool) inside, size) at test
