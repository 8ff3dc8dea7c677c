-- SPDX-License-Identifier: BSD-2-Clause OR GPL-2.0-or-later
-- The one `cpus` node of a blob: what the walk counts of it, where it begins, and what is filled from there. Assumes nothing.
use mathlib.Core.Path.{◌≡◌, refl, sym, ◌∙◌, ap, subst}
use mathlib.Core.Bool.{cond}
use mathlib.Core.Logic.{◌⊎◌, inl, inr, ⊎_elim}
use mathlib.Core.List.{List, [], ◌∷◌, ◌++◌, append_assoc}
use Prim.Native.Nat.{ℕ, zero, suc, ◌+◌, ◌-◌, ◌≤◌}
use native.Mathlib.Omega.{arith}
use lib.ListN.{length, length-append}
use borrow.Author.Tests.{lt-leb}
use Rattle.laws.specs.facts.Limits.{no_parent}
use Rattle.laws.proofs.DecideLaws.{decides_not}
use Rattle.tables.specs.facts.Board.{range}
use Rattle.tables.specs.facts.Binding.{cpus_word}
use Rattle.tables.specs.facts.Property.{cell_at}
use Rattle.tables.proofs.DecideLaws.{range_test}
use Rattle.tokens.specs.answers.Read.{known_read}
use Rattle.tokens.specs.declared.TokenRead.{TokenRead}
use Rattle.tokens.specs.facts.Token.{Blocks, Token, begin, close, property, nop, finish, TokenAt, Run, stop, more}
use Rattle.tokens.specs.facts.Token.{begin_at, close_at, property_at, nop_at, finish_at}
use Rattle.tokens.proofs.TokenLaws.{forget, name_length, token_long}
use Rattle.stream.specs.facts.Tree.{Property, Nodes, empty, node, tokens_of, size_of, node_words, prop_words, CpusAmong, none, named, other}
use Rattle.stream.specs.facts.Stream.{without_nops, Root, root}
use Rattle.stream.specs.answers.Walk.{cpus_mark}
use Rattle.stream.proofs.StreamLaws.{node_tokens}
use Rattle.stream.proofs.TallyLaws.{Tally, counted, child_tally, prop_count}
use Rattle.stream.proofs.AmongLaws.{NamesInside}
use Rattle.flat.specs.answers.Fill.{Filled, fill_start, has_outer, node_closed, fill_by, fill_from}
use Rattle.flat.proofs.KnownLaws.{known, known_found}
use Rattle.flat.proofs.FillLaws.{fill_list, filled, node_fill, fill_nops}

-- where the begin token of the first node stands
abbrev pub place_of : Nodes → ℕ
place_of empty = 0
place_of (node name len props children rest) = name - 4

-- the one node c among nodes side by side that is named `cpus`: its tokens among those of all, and what is counted from x to y
pub record OneCpus (t c : Nodes) (x y : Tally) : Type 0 where
  pub one_node : Root c
  pub before : List Token
  pub behind : List Token
  pub tokens : tokens_of t ≡ before ++ (tokens_of c ++ behind)
  pub first : y.first ≡ place_of c
  pub nodes : y.nodes ≡ x.nodes + size_of c
  pub props : y.props ≡ x.props + prop_count c

-- a node and those behind it
first_tokens :
    (name len : ℕ) (props : List Property) (kids rest : Nodes) →
    tokens_of (node name len props kids rest) ≡ tokens_of (node name len props kids empty) ++ tokens_of rest
unfolding tokens_of
first_tokens name len props kids rest = ap (λ (z : List Token). begin name len ∷ z) (sym (node_tokens props kids empty (tokens_of rest)))

module _ (bytes : List ℕ) where
  -- the mark of a name that lies inside
  mark_named : (name len : ℕ) → name + len ≤ length bytes → range bytes name len ≡ cpus_word → cpus_mark bytes name len ≡ 1
  unfolding cpus_mark
  mark_named name len inside e = rw ((range_test bytes name len cpus_word inside).1 e)

  mark_other : (name len : ℕ) → name + len ≤ length bytes → (range bytes name len ≡ cpus_word → ⊥) → cpus_mark bytes name len ≡ 0
  unfolding cpus_mark
  mark_other name len inside never = rw ((decides_not (range_test bytes name len cpus_word inside)).1 never)

  -- how many children of the root are named `cpus`
  pub child_cpus :
      {t : Nodes} {found : List Nodes} (x : Tally) →
      NamesInside bytes t →
      CpusAmong bytes t found →
      (child_tally bytes t x).cpus ≡ x.cpus + length found
  unfolding child_tally NamesInside
  child_cpus x inside none = omega arith
  child_cpus x inside (named {name} {len} {props} {children} e h) =
      rw (child_tally, mark_named name len inside.0 e) (child_cpus (counted 1 name props children x) inside.2 h ∙ omega arith)
  child_cpus x inside (other {name} {len} {props} {children} e h) =
      rw (child_tally, mark_other name len inside.0 e) (child_cpus (counted 0 name props children x) inside.2 h ∙ omega arith)

  -- children none of which is named `cpus`
  none_tally :
      {t : Nodes} (x : Tally) →
      NamesInside bytes t →
      CpusAmong bytes t [] →
      let y = child_tally bytes t x in
      (y.first ≡ x.first) × (y.nodes ≡ x.nodes) × (y.props ≡ x.props)
  unfolding child_tally NamesInside
  none_tally x inside none = (refl, refl, refl)
  none_tally x inside (other {name} {len} {props} {children} e h) =
      let r = none_tally (counted 0 name props children x) inside.2 h in
      rw (child_tally, mark_other name len inside.0 e) (r.0, r.1 ∙ omega arith, r.2 ∙ omega arith)

  pub one_cpus :
      {t c : Nodes} (x : Tally) →
      NamesInside bytes t →
      CpusAmong bytes t (c ∷ []) →
      OneCpus t c x (child_tally bytes t x)
  unfolding child_tally NamesInside size_of prop_count
  one_cpus x inside (named {name} {len} {props} {children} {rest} e h) =
      let r = none_tally (counted 1 name props children x) inside.2 h in
      rw (child_tally, mark_named name len inside.0 e)
      (record {
        one_node = root;
        before = [];
        behind = tokens_of rest;
        tokens = first_tokens name len props children rest;
        first = r.0;
        nodes = r.1 ∙ omega arith;
        props = r.2 ∙ omega arith;
      })
  one_cpus {c = c} x inside (other {name} {len} {props} {children} {rest} e h) =
      let r = one_cpus (counted 0 name props children x) inside.2 h in
      let here = tokens_of (node name len props children empty) in
      rw (child_tally, mark_other name len inside.0 e)
      (record {
        one_node = r.one_node;
        before = here ++ r.before;
        behind = r.behind;
        tokens =
            first_tokens name len props children rest
            ∙ ap (λ (z : List Token). here ++ z) r.tokens
            ∙ sym (append_assoc here r.before (tokens_of c ++ r.behind));
        first = r.first;
        nodes = r.nodes ∙ omega arith;
        props = r.props ∙ omega arith;
      })

-- a token is left out, or it stays
nop_or : (t : Token) (ts : List Token) → (without_nops (t ∷ ts) ≡ without_nops ts) ⊎ (without_nops (t ∷ ts) ≡ t ∷ without_nops ts)
unfolding without_nops
nop_or (begin n l) ts = inr refl
nop_or close ts = inr refl
nop_or (property n l v s) ts = inr refl
nop_or nop ts = inl refl
nop_or finish ts = inr refl

module _ (b : Blocks) where
  abbrev block : List ℕ
  block = b.structure

  abbrev filling : ℕ → ℕ → Filled → Filled
  filling = fill_from block b.strings b.strings_begin

  abbrev filling_by : (ℕ → Filled → Filled) → ℕ → Filled → TokenRead → Filled
  filling_by = fill_by block b.strings b.strings_begin

  -- nothing is filled from the block's end on
  off : (k : ℕ) (f : Filled) → filling k (length block) f ≡ f
  unfolding fill_from known_read cell_at
  off zero f = refl
  off (suc k) f = rw (lt-leb (length block + 4) (length block) (omega arith))

  one_token :
      (k at : ℕ) (f : Filled) {t : Token} {next : ℕ} (ts : List Token) →
      TokenAt b at t next →
      ((g : Filled) → filling k next g ≡ fill_list ts g) →
      filling_by (filling k) at f (known (forget b t next)) ≡ fill_list (t ∷ ts) f
  unfolding fill_list
  one_token k at f ts (begin_at c h) ih = ih _
  one_token k at f ts (close_at c) ih = ap (λ (x : Filled). cond (has_outer f.open_record f.count) x f) (ih (node_closed f))
  one_token k at f ts (property_at {offset = offset} {len = len} c d g le h) ih =
      let back : b.strings_begin + offset - b.strings_begin ≡ offset = omega arith in
      rw (back, name_length b.strings offset len h) (ih _)
  one_token k at f ts (nop_at c) ih = ih f
  one_token k at f ts (finish_at c) ih = refl

  -- filling over a run that ends with the block
  fill_run : (k : ℕ) {at : ℕ} {ts : List Token} (f : Filled) → Run b at ts (length block) → length ts ≤ k → filling k at f ≡ fill_list ts f
  unfolding fill_from fill_list
  fill_run k f stop le = off k f
  fill_run zero f (more h r) le = absurd (omega arith)
  fill_run (suc k) f (more {at} {ts = ts} h r) le =
      ap (filling_by (filling k) at f) (known_found b at h) ∙ one_token k at f ts h (λ g. fill_run k g r (omega arith))

  -- a run up to a place that begins with a token, and what follows without NOPs
  abbrev From : ℕ → Token → List Token → Type 0
  From to t ys = (at : ℕ) × (ts : List Token) × Run b at (t ∷ ts) to × (without_nops ts ≡ ys)

  -- a run cut at a token that is no NOP
  cut : {a to : ℕ} (ts xs ys : List Token) (t : Token) → Run b a ts to → without_nops ts ≡ xs ++ (t ∷ ys) → From to t ys
  unfolding without_nops
  cut [] xs ys t r e = absurd (omega (arith, ap length e, length-append xs (t ∷ ys)))
  cut {a} {to} (u ∷ ts) xs ys t (more h r) e =
      ⊎_elim (λ q. cut ts xs ys t r (sym q ∙ e)) (λ q. here xs (λ zs. cut ts zs ys t r) (sym q ∙ e)) (nop_or u ts)
    where
      here :
          (zs : List Token) →
          ((us : List Token) → without_nops ts ≡ us ++ (t ∷ ys) → From to t ys) →
          u ∷ without_nops ts ≡ zs ++ (t ∷ ys) →
          From to t ys
      here [] ih q = (a, ts, subst (λ (x : Token). Run b a (x ∷ ts) to) (cc) (more h r), cc)
      here (z ∷ zs) ih q = ih zs (cc)

  -- a begin token stands four bytes before its name
  begin_place : {at n l p : ℕ} {ts : List Token} → Run b at (begin n l ∷ ts) p → at ≡ n - 4
  begin_place (more (begin_at c h) r) = omega arith

  -- a run takes a byte at least for each token
  run_long : {a p : ℕ} {ts : List Token} → Run b a ts p → a + length ts ≤ p
  run_long stop = omega arith
  run_long (more h r) = omega (arith, token_long h, run_long r)

  -- what is filled from the begin token of a node is the records of that node and of all below it
  pub cpus_filled :
      {a : ℕ} {c : Nodes} (ts before behind : List Token) →
      Run b a ts (length block) →
      Root c →
      without_nops ts ≡ before ++ (tokens_of c ++ behind) →
      filling (length block - place_of c) (place_of c) fill_start ≡ filled (node_words no_parent 0 c) (prop_words 0 c) 0 (size_of c)
  unfolding without_nops tokens_of
  cpus_filled ts before behind r (root {name} {len} {props} {children}) e =
      let z = cut ts before _ (begin name len) r e in
      let run = subst (λ (x : ℕ). Run b x (begin name len ∷ z.1) (length block)) (begin_place z.2) z.2 in
      fill_run (length block - (name - 4)) fill_start run (omega (arith, run_long run))
      ∙ fill_nops (begin name len ∷ z.1) fill_start
      ∙ ap (λ (w : List Token). fill_list (begin name len ∷ w) fill_start) z.3
      ∙ node_fill (root {name = name} {len = len} {props = props} {children = children}) behind
