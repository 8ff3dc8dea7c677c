-- SPDX-License-Identifier: BSD-2-Clause OR GPL-2.0-or-later
-- The loop that fills the tables: what stands at their fronts, and what is left to do. Assumes nothing.
use mathlib.Core.Path.{◌≡◌, refl, sym, ◌∙◌, ap, subst}
use mathlib.Core.Bool.{Bool, true, false, cond}
use mathlib.Core.List.{List, [], ◌∷◌, ◌++◌}
use Prim.Native.Nat.{ℕ, zero, suc, ◌+◌, ◌-◌, ◌*◌, ◌≤◌, ◌<◌}
use native.Mathlib.Omega.{arith}
use lib.Dec.{ltb, eqb}
use lib.ListN.{length, get_or, take, drop, length-append, length-drop, get_or-append}
use borrow.Author.Tests.{ltb-true, lt-leb}
use Rattle.laws.specs.facts.Limits.{no_parent}
use Rattle.laws.proofs.PartLaws.{front_more}
use Rattle.laws.proofs.TestLaws.{cond_both, both_true}
use Rattle.tables.specs.facts.Property.{cell_at}
use Rattle.tokens.specs.declared.TokenRead.{TokenRead}
use Rattle.tokens.specs.declared.TokenRead.TheVariants.{Begin, Close, Property, Nop, End, Unsound}
use Rattle.tokens.specs.facts.Token.{aligned}
use Rattle.tokens.specs.answers.Read.{zero_from, known_begin, known_read}
use Rattle.tokens.proofs.ZeroLaws.{zero_not_before}
use Rattle.flat.specs.answers.Fill.{Filled, node_added, node_closed, prop_added, has_outer, fill_by, fill_from, filled_from}
use Rattle.blob.proofs.EndLaws.{zero_near}

-- a table whose front has these words, so many
pub record Front (old table words : List ℕ) (size : ℕ) : Type 0 where
  pub is : table ≡ words ++ drop (length words) old
  pub counted : length words ≡ size

front_length : {old table words : List ℕ} {size : ℕ} → Front old table words size → size ≤ length old → length table ≡ length old
front_length {old} {table} {words} h le =
    ap length h.is ∙ length-append words (drop (length words) old) ∙ omega (arith, h.counted, length-drop (length words) old)

-- some words more
front_put :
    {old table words : List ℕ} {size : ℕ} →
    Front old table words size →
    (new after : List ℕ) (more total : ℕ) →
    length new ≡ more →
    size + more ≡ total →
    after ≡ take size table ++ new ++ drop (size + more) table →
    Front old after (words ++ new) total
front_put {old} {table} {words} {size} h new after more total n t e =
    let long : length (words ++ new) ≡ size + more = length-append words new ∙ omega (arith, h.counted) in
    record {
      is =
          e
          ∙ front_more size more words new old table h.counted (h.is ∙ ap (λ (k : ℕ). words ++ drop k old) h.counted)
          ∙ ap (λ (k : ℕ). (words ++ new) ++ drop k old) (sym long);
      counted = long ∙ t;
    }

-- what is told of a token: bounds, and that the next one stands behind it
abbrev Told : List ℕ → ℕ → ℕ → TokenRead → Type 0
Told block names at (Begin len next) = (len ≤ length block) × (at < next)
Told block names at Close = 0 ≤ 0
Told block names at (Property name size next) = (name < names) × (size ≡ cell_at block (at + 4)) × (at < next)
Told block names at Nop = 0 ≤ 0
Told block names at End = 0 ≤ 0
Told block names at Unsound = 0 ≤ 0

known_told : (block : List ℕ) (names at : ℕ) → Told block names at (known_read block names at)
unfolding known_read
known_told block names at =
    let P = Told block names at in
    let cell = cell_at block at in
    let size = cell_at block (at + 4) in
    let name = cell_at block (at + 8) in
    let found = Property name size (aligned (at + 12 + size)) in
    let begun = known_begin block at in
    let more = cond (eqb cell 4) Nop Unsound in
    let less = cond (eqb cell 1) begun (cond (eqb cell 2) Close Unsound) in
    let low = zero_not_before block (at + 4) in
    let high = zero_near block (at + 4) in
    cond_both P (eqb cell 3) (cond (ltb name names) found Unsound) (cond (ltb 3 cell) more less)
    (λ e. cond_both P (ltb name names) found Unsound (λ l. (ltb-true name names l, refl, omega arith)) λ l. omega arith)
    λ e. cond_both P (ltb 3 cell) more less
    (λ f. cond_both P (eqb cell 4) Nop Unsound (λ g. omega arith) λ g. omega arith)
    λ f. cond_both P (eqb cell 1) begun (cond (eqb cell 2) Close Unsound) (λ g. (omega arith, omega arith)) λ g.
    cond_both P (eqb cell 2) Close Unsound (λ h. omega arith) λ h. omega arith

pub begin_told :
    (block : List ℕ) (names at len next : ℕ) →
    known_read block names at ≡ Begin len next →
    (len ≤ length block) × (at < next)
begin_told block names at len next e = subst (Told block names at) e (known_told block names at)

pub property_told :
    (block : List ℕ) (names at name size next : ℕ) →
    known_read block names at ≡ Property name size next →
    (name < names) × (size ≡ cell_at block (at + 4)) × (at < next)
property_told block names at name size next e = subst (Told block names at) e (known_told block names at)

module _ (block strings : List ℕ) (base : ℕ) where
  abbrev read_at : ℕ → TokenRead
  read_at at = known_read block (length strings) at

  abbrev filling : ℕ → ℕ → Filled → Filled
  filling = fill_from block strings base

  abbrev Larger : Filled → Filled → Type 0
  Larger f g = (length f.nodes ≤ length g.nodes) × (length f.props ≤ length g.props)

  -- nothing that is filled goes away
  grows : (k at : ℕ) (f : Filled) → Larger f (filling k at f)
  unfolding fill_from
  grows zero at f = (omega arith, omega arith)
  grows (suc k) at f = go (read_at at) (grows k)
    where
      same : Larger f f
      same = (omega arith, omega arith)

      go : (r : TokenRead) → ((a : ℕ) (g : Filled) → Larger g (filling k a g)) → Larger f (fill_by block strings base (filling k) at f r)
      go (Begin len next) ih =
          let h = ih next (node_added f (at + 4) len) in
          let l = length-append f.nodes (f.open_record ∷ (at + 4) ∷ len ∷ []) in
          (omega (arith, h.0), h.1)
      go Close ih =
          let g = node_closed f in
          cond_both (Larger f) (has_outer f.open_record f.count) (filling k (at + 4) g) f (λ q. ih (at + 4) g) λ q. same
      go (Property name size next) ih =
          let len = zero_from strings name - name in
          let h = ih next (prop_added f (base + name) len (at + 12) size) in
          let l = length-append f.props (f.open_record ∷ (base + name) ∷ len ∷ (at + 12) ∷ size ∷ []) in
          (h.0, omega (arith, h.1))
      go Nop ih = ih (at + 4) f
      go End ih = same
      go Unsound ih = same

  -- no token stands behind the block
  past_end : (k at : ℕ) (f : Filled) → length block ≤ at → filling k at f ≡ f
  unfolding fill_from known_read cell_at
  past_end zero at f le = refl
  past_end (suc k) at f le = rw (lt-leb (at + 4) (length block) (omega arith))

abbrev filled_as : List ℕ → List ℕ → ℕ → ℕ → Filled
filled_as nodes props o count = record { nodes = nodes; props = props; open_record = o; count = count }

-- the same words
abbrev Same : Filled → Filled → Type 0
Same f g = (f.nodes ≡ g.nodes) × (f.props ≡ g.props)

-- the tables, with room for all of `whole`, before the token at a place: record o is open, and there are so many records
pub record Filling (block strings : List ℕ) (base : ℕ) (N0 P0 : List ℕ) (whole : Filled) (at o count own : ℕ) (N P : List ℕ) : Type 0 where
  pub small : length block ≤ 65536
  pub node_room : length whole.nodes ≤ length N0
  pub prop_room : length whole.props ≤ length P0
  pub words_of_nodes : List ℕ
  pub words_of_props : List ℕ
  pub left : ℕ
  pub enough : length block - at ≤ left
  pub same : Same whole (fill_from block strings base left at (filled_as words_of_nodes words_of_props o count))
  pub node_front : Front N0 N words_of_nodes (3 * count)
  pub prop_front : Front P0 P words_of_props (5 * own)
  pub open_fits : o < 4294967296
  pub words_fit : (k : ℕ) → get_or N k 0 < 4294967296
  pub few_nodes : count ≤ at
  pub few_props : own ≤ at

pub filling_start :
    (block strings : List ℕ) (base first : ℕ) (N0 P0 : List ℕ) →
    length block ≤ 65536 →
    length (filled_from block strings base first).nodes ≤ length N0 →
    length (filled_from block strings base first).props ≤ length P0 →
    ((k : ℕ) → get_or N0 k 0 < 4294967296) →
    Filling block strings base N0 P0 (filled_from block strings base first) first no_parent 0 0 N0 P0
filling_start block strings base first N0 P0 small nodes props fit =
    record {
      small = small;
      node_room = nodes;
      prop_room = props;
      words_of_nodes = [];
      words_of_props = [];
      left = length block - first;
      enough = omega arith;
      same = (refl, refl);
      node_front = record { is = refl; counted = refl };
      prop_front = record { is = refl; counted = refl };
      open_fits = omega arith;
      words_fit = fit;
      few_nodes = omega arith;
      few_props = omega arith;
    }

module _ {block strings N0 P0 N P : List ℕ} {base at o count own : ℕ} {whole : Filled}
    (h : Filling block strings base N0 P0 whole at o count own N P) where
  abbrev f : Filled
  f = filled_as h.words_of_nodes h.words_of_props o count

  abbrev Next : ℕ → ℕ → ℕ → ℕ → List ℕ → List ℕ → Type 0
  Next = Filling block strings base N0 P0 whole

  nodes_within : (k a : ℕ) (g : Filled) → Same whole (fill_from block strings base k a g) → length g.nodes ≤ length N0
  nodes_within k a g e = omega (arith, (grows block strings base k a g).0, ap length e.0, h.node_room)

  props_within : (k a : ℕ) (g : Filled) → Same whole (fill_from block strings base k a g) → length g.props ≤ length P0
  props_within k a g e = omega (arith, (grows block strings base k a g).1, ap length e.1, h.prop_room)

  pub nodes_length : length N ≡ length N0
  nodes_length = front_length h.node_front (omega (arith, nodes_within h.left at f h.same, h.node_front.counted))

  pub props_length : length P ≡ length P0
  props_length = front_length h.prop_front (omega (arith, props_within h.left at f h.same, h.prop_front.counted))

  -- what is left, by the token
  abbrev Rest : TokenRead → Type 0
  Rest r = (k : ℕ) × (length block - at ≤ suc k) × Same whole (fill_by block strings base (fill_from block strings base k) at f r)

  opened : at < length block → (r : TokenRead) → known_read block (length strings) at ≡ r → Rest r
  unfolding fill_from
  opened lt r e = go h.left h.enough h.same
    where
      go : (n : ℕ) → length block - at ≤ n → Same whole (fill_from block strings base n at f) → Rest r
      go zero few s = absurd (omega arith)
      go (suc k) few s = (k, few, subst (λ (x : TokenRead). Same whole (fill_by block strings base (fill_from block strings base k) at f x)) e s)

  -- a begin token: the record fits, and is then the open one
  pub node_fits : at < length block → (len next : ℕ) → known_read block (length strings) at ≡ Begin len next → 3 * count + 3 ≤ length N
  node_fits lt len next e =
      let w = opened lt (Begin len next) e in
      let longer = length-append h.words_of_nodes (o ∷ (at + 4) ∷ len ∷ []) in
      omega (arith, nodes_length, nodes_within w.0 next (node_added f (at + 4) len) w.2, longer, h.node_front.counted)

  pub filling_begin :
      at < length block →
      (len next : ℕ) →
      known_read block (length strings) at ≡ Begin len next →
      (N' : List ℕ) →
      N' ≡ take (3 * count) N ++ (o ∷ (at + 4) ∷ len ∷ []) ++ drop (3 * count + 3) N →
      ((k : ℕ) → get_or N' k 0 < 4294967296) →
      Next next count (count + 1) own N' P
  filling_begin lt len next e N' q fit =
      let w = opened lt (Begin len next) e in
      let few = w.1 in
      let ahead = (begin_told block (length strings) at len next e).1 in
      record {
        small = h.small;
        node_room = h.node_room;
        prop_room = h.prop_room;
        words_of_nodes = h.words_of_nodes ++ (o ∷ (at + 4) ∷ len ∷ []);
        words_of_props = h.words_of_props;
        left = w.0;
        enough = omega arith;
        same = w.2;
        node_front = front_put h.node_front (o ∷ (at + 4) ∷ len ∷ []) N' 3 (3 * (count + 1)) refl (omega arith) q;
        prop_front = h.prop_front;
        open_fits = omega (arith, h.small, h.few_nodes);
        words_fit = fit;
        few_nodes = omega (arith, h.few_nodes);
        few_props = omega (arith, h.few_props);
      }

  -- a property
  pub prop_fits :
      at < length block → (name size next : ℕ) → known_read block (length strings) at ≡ Property name size next → 5 * own + 5 ≤ length P
  prop_fits lt name size next e =
      let w = opened lt (Property name size next) e in
      let len = zero_from strings name - name in
      let longer = length-append h.words_of_props (o ∷ (base + name) ∷ len ∷ (at + 12) ∷ size ∷ []) in
      omega (arith, props_length, props_within w.0 next (prop_added f (base + name) len (at + 12) size) w.2, longer, h.prop_front.counted)

  pub filling_prop :
      at < length block →
      (name size next : ℕ) →
      known_read block (length strings) at ≡ Property name size next →
      (P' : List ℕ) →
      P' ≡ take (5 * own) P ++ (o ∷ (base + name) ∷ (zero_from strings name - name) ∷ (at + 12) ∷ size ∷ []) ++ drop (5 * own + 5) P →
      Next next o count (own + 1) N P'
  filling_prop lt name size next e P' q =
      let w = opened lt (Property name size next) e in
      let few = w.1 in
      let ahead = (property_told block (length strings) at name size next e).2 in
      let words = o ∷ (base + name) ∷ (zero_from strings name - name) ∷ (at + 12) ∷ size ∷ [] in
      record {
        small = h.small;
        node_room = h.node_room;
        prop_room = h.prop_room;
        words_of_nodes = h.words_of_nodes;
        words_of_props = h.words_of_props ++ words;
        left = w.0;
        enough = omega arith;
        same = w.2;
        node_front = h.node_front;
        prop_front = front_put h.prop_front words P' 5 (5 * (own + 1)) refl (omega arith) q;
        open_fits = h.open_fits;
        words_fit = h.words_fit;
        few_nodes = omega (arith, h.few_nodes);
        few_props = omega (arith, h.few_props);
      }

  -- the tables stay
  kept :
      (a t k : ℕ) →
      at ≤ a →
      t < 4294967296 →
      length block - a ≤ k →
      Same whole (fill_from block strings base k a (filled_as h.words_of_nodes h.words_of_props t count)) →
      Next a t count own N P
  kept a t k le fits few e =
      record {
        small = h.small;
        node_room = h.node_room;
        prop_room = h.prop_room;
        words_of_nodes = h.words_of_nodes;
        words_of_props = h.words_of_props;
        left = k;
        enough = few;
        same = e;
        node_front = h.node_front;
        prop_front = h.prop_front;
        open_fits = fits;
        words_fit = h.words_fit;
        few_nodes = omega (arith, h.few_nodes);
        few_props = omega (arith, h.few_props);
      }

  pub filling_nop : at < length block → known_read block (length strings) at ≡ Nop → Next (at + 4) o count own N P
  filling_nop lt e = let w = opened lt Nop e in let few = w.1 in kept (at + 4) o w.0 (omega arith) h.open_fits (omega arith) w.2

  -- nothing more is filled
  stopped : at < length block → (t : ℕ) → t < 4294967296 → Same whole f → Next (length block) t count own N P
  unfolding fill_from
  stopped lt t fits e = kept (length block) t 0 (omega arith) fits (omega arith) e

  pub filling_end : at < length block → known_read block (length strings) at ≡ End → Next (length block) o count own N P
  filling_end lt e = stopped lt o h.open_fits (opened lt End e).2

  pub filling_unsound : at < length block → known_read block (length strings) at ≡ Unsound → Next (length block) o count own N P
  filling_unsound lt e = stopped lt o h.open_fits (opened lt Unsound e).2

  -- a close token: the record around the open one is open again, or the first record is closed
  pub filling_close :
      at < length block →
      known_read block (length strings) at ≡ Close →
      (a : ℕ) →
      a ≡ cond (has_outer o count) (at + 4) (length block) →
      Next a (get_or N (3 * o + 0) 0) count own N P
  unfolding has_outer
  filling_close lt e a ae = go (has_outer o count) refl ae (opened lt Close e).2
    where
      k : ℕ
      k = (opened lt Close e).0

      t : ℕ
      t = get_or N (3 * o + 0) 0

      Again : ℕ → ℕ → Type 0
      Again i x = Same whole (fill_from block strings base k i (filled_as h.words_of_nodes h.words_of_props x count))

      go :
          (b : Bool) →
          has_outer o count ≡ b →
          a ≡ cond b (at + 4) (length block) →
          Same whole (cond b (fill_from block strings base k (at + 4) (node_closed f)) f) →
          Next a t count own N P
      go true q ae s =
          let few = (opened lt Close e).1 in
          let below = ltb-true o count (both_true (ltb 0 o) q).1 in
          let words = h.words_of_nodes in
          let place : 3 * o ≡ 3 * o + 0 = omega arith in
          let parent : get_or words (3 * o) 0 ≡ t =
          sym (get_or-append words (drop (length words) N0) 0 (3 * o) (omega (arith, h.node_front.counted)))
          ∙ ap (λ (l : List ℕ). get_or l (3 * o) 0) (sym h.node_front.is)
          ∙ ap (λ (i : ℕ). get_or N i 0) place in
          kept a t k (omega arith) (h.words_fit (3 * o + 0)) (omega arith)
          (subst (λ (i : ℕ). Again i t) (sym ae) (subst (Again (at + 4)) parent s))
      go false q ae s = subst (λ (i : ℕ). Next i t count own N P) (sym ae) (stopped lt t (h.words_fit (3 * o + 0)) s)

  -- no token is left
  pub filling_out :
      length block ≤ at → (N ≡ whole.nodes ++ drop (length whole.nodes) N0) × (P ≡ whole.props ++ drop (length whole.props) P0)
  filling_out le =
      let all = subst (Same whole) (past_end block strings base h.left at f le) h.same in (
        h.node_front.is ∙ ap (λ (l : List ℕ). l ++ drop (length l) N0) (sym all.0),
        h.prop_front.is ∙ ap (λ (l : List ℕ). l ++ drop (length l) P0) (sym all.1),
      )
