-- SPDX-License-Identifier: BSD-2-Clause OR GPL-2.0-or-later
-- What the code that notes properties and finds them needs. Assumes nothing.
use Rattle.std.specs.Prelude.{None, Some}
use mathlib.Core.Path.{◌≡◌, sym, ap, ◌∙◌}
use mathlib.Core.List.{List, ◌++◌}
use Prim.Native.Nat.{ℕ, zero, suc, min, ◌+◌, ◌*◌, ◌≤◌, ◌<◌}
use native.Mathlib.Numerals.{add-one}
use native.Mathlib.Omega.{arith}
use lib.ListN.{length, drop, get_or, get_or-eq_default, get_or-append, length-drop, length-append}
use lib.Seq.{drop_at, drop-drop, get_or-drop}
use Rattle.laws.specs.facts.Limits.{max_properties}
use Rattle.tables.specs.facts.Board.{prop_count, prop_node, key_offset, key_length}
use Rattle.tables.specs.facts.Property.{found_at}
use Rattle.property_index.specs.declared.Key.{Key}
use Rattle.property_index.specs.facts.Key.{key_number}
use Rattle.property_index.specs.answers.Index.{noted_key, indexed_below, indexed_at}

-- the answer by a word of the table: none outside the table, none where it is 0, else the number below it
module _ (props table : List ℕ) (i : ℕ) (key : Key) where
  pub key_beyond : length table ≤ 4 * i → None ≡ indexed_at props table i key
  unfolding indexed_at
  key_beyond le = rw (get_or-eq_default table 0 {n = 4 * i + key_number key} (omega arith))

  pub key_none : {n w : ℕ} → n ≡ key_number key → w ≡ get_or table (4 * i + n) 0 → w ≡ 0 → None ≡ indexed_at props table i key
  unfolding indexed_at
  key_none e at z = rw (← e, ← at, z)

  pub key_some :
      {n w k : ℕ} →
      n ≡ key_number key →
      w ≡ get_or table (4 * i + n) 0 →
      w ≡ suc k →
      Some (found_at props k) ≡ indexed_at props table i key
  unfolding indexed_at
  key_some e at some = rw (← e, ← at, some)

-- one property more
pub keys_more :
    (table props pool : List ℕ) (k : ℕ) {before after : List ℕ} {node offset len : ℕ} →
    before ≡ indexed_below table props pool k →
    node ≡ prop_node props k →
    offset ≡ key_offset props k →
    len ≡ key_length props k →
    after ≡ noted_key before pool node offset len k →
    after ≡ indexed_below table props pool (k + 1)
unfolding indexed_below
keys_more table props pool k same n o l e = rw (add-one, ← same, ← n, ← o, ← l) e

-- the words of one property off the front of those that are left
module _ (props : List ℕ) (k : ℕ) (words rest : List ℕ) (left : drop (5 * k) props ≡ words ++ rest) (whole : length words ≡ 5) where
  pub words_rest : rest ≡ drop (5 * (k + 1)) props
  words_rest =
      let next : 5 * (k + 1) ≡ 5 * k + 5 = omega arith in
      rw (next, ← drop-drop 5 (5 * k) props, left) (sym (drop_at words rest 5 whole))

  pub words_within : 5 * k ≤ length props → 5 * (k + 1) ≤ length props
  words_within le = omega (arith, length-drop (5 * k) props, ap length left, length-append words rest, whole)

  pub words_at : (j n : ℕ) → n ≡ 5 * k + j → j < 5 → get_or words j 0 ≡ get_or props n 0
  words_at j n e lt =
      rw e (sym (get_or-append words rest 0 j (rw whole lt)) ∙ ap (λ (xs : List ℕ). get_or xs j 0) (sym left) ∙ get_or-drop (5 * k) props j 0)

-- where no property is left, or no more are allowed, all are noted
pub all_noted :
    (props : List ℕ) (left : ℕ) {rest : List ℕ} {k size : ℕ} →
    k + left ≡ max_properties →
    5 * k ≤ length props →
    rest ≡ drop (5 * k) props →
    size ≡ 5 →
    (0 < left → length rest < size) →
    k ≡ min (prop_count props) max_properties
all_noted props zero few within same whole ends = omega (arith, few, within)
all_noted props (suc left) {k = k} few within same whole ends =
    omega (arith, few, within, whole, ap length same, length-drop (5 * k) props, ends (omega arith))
