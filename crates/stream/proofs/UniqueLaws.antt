-- SPDX-License-Identifier: BSD-2-Clause OR GPL-2.0-or-later
-- A block holds at most one tree, is broken at no more than one place, and not both. Assumes nothing.
use mathlib.Core.Path.{◌≡◌, refl, sym, ◌∙◌, ap, subst}
use mathlib.Core.Logic.{◌⊎◌, inl, inr, ⊎_elim}
use mathlib.Core.List.{List, [], ◌∷◌, ◌++◌, append-nil, append_assoc, append_cancel_right}
use Prim.Native.Nat.{ℕ, ◌+◌, ◌-◌, ◌≤◌}
use native.Mathlib.Omega.{arith}
use lib.ListN.{length}
use Rattle.tokens.specs.declared.TokenRead.{TokenRead}
use Rattle.tokens.specs.declared.TokenRead.TheVariants.{Begin, Close, Property, Nop, End, Unsound}
use Rattle.tokens.specs.facts.Token.{Blocks, Token, begin, close, property, nop, finish, TokenAt, Run, stop, more}
use Rattle.tokens.specs.facts.Token.{begin_at, close_at, property_at, nop_at, finish_at}
use Rattle.tokens.proofs.TokenLaws.{forget, name_length_at, name_length, token_found}
use Rattle.stream.specs.facts.Tree.{Nodes, empty, node, property_tokens, tokens_of}
use Rattle.stream.specs.facts.Tree as tree_facts
use Rattle.stream.specs.facts.Stream.{without_nops, WholeStream, Begins, Holds, BrokenAt}
use Rattle.stream.proofs.StreamLaws.{node_tokens}

abbrev Properties : Type 0
Properties = List tree_facts.Property

-- the first token is no property
NoProperty : List Token → Type 0
NoProperty xs = (n l v s : ℕ) (ts : List Token) → xs ≡ property n l v s ∷ ts → ⊥

nodes_first : (t : Nodes) (ts : List Token) → NoProperty (tokens_of t ++ (close ∷ ts))
unfolding tokens_of NoProperty
nodes_first empty ts n l v s us e = let z : ◌≡◌ {A = ℕ} 0 1 = cc in omega arith
nodes_first (node m k ps kids rest) ts n l v s us e = let z : ◌≡◌ {A = ℕ} 0 1 = cc in omega arith

-- properties up to the first token of another kind
props_unique :
    (ps qs : Properties) (xs ys : List Token) →
    NoProperty xs →
    NoProperty ys →
    property_tokens ps ++ xs ≡ property_tokens qs ++ ys →
    (ps ≡ qs) × (xs ≡ ys)
unfolding property_tokens NoProperty
props_unique [] [] xs ys a c e = (refl, e)
props_unique [] (q ∷ qs) xs ys a c e = absurd (a q.name q.len q.value q.size (property_tokens qs ++ ys) e)
props_unique (p ∷ ps) [] xs ys a c e = absurd (c p.name p.len p.value p.size (property_tokens ps ++ xs) (sym e))
props_unique (p ∷ ps) (q ∷ qs) xs ys a c e =
    let rest = props_unique ps qs xs ys a c (cc) in
    let name : p.name ≡ q.name = cc in
    let len : p.len ≡ q.len = cc in
    let value : p.value ≡ q.value = cc in
    let size : p.size ≡ q.size = cc in
    let same : p ≡ q = λ i. record { name = name i; len = len i; value = value i; size = size i } in
    (cc (same, rest.0), rest.1)

-- nodes up to the close token behind them
nodes_unique : (t u : Nodes) (xs ys : List Token) → tokens_of t ++ (close ∷ xs) ≡ tokens_of u ++ (close ∷ ys) → (t ≡ u) × (xs ≡ ys)
unfolding tokens_of
nodes_unique empty empty xs ys e = (refl, cc)
nodes_unique empty (node n l ps kids rest) xs ys e = let z : ◌≡◌ {A = ℕ} 0 1 = cc in absurd (omega arith)
nodes_unique (node n l ps kids rest) empty xs ys e = let z : ◌≡◌ {A = ℕ} 0 1 = cc in absurd (omega arith)
nodes_unique (node n l ps kids rest) (node m k qs sons others) xs ys e =
    let behind = tokens_of rest ++ (close ∷ xs) in
    let further = tokens_of others ++ (close ∷ ys) in
    let inner : property_tokens ps ++ (tokens_of kids ++ (close ∷ behind)) ≡ property_tokens qs ++ (tokens_of sons ++ (close ∷ further)) =
    cc (node_tokens ps kids rest (close ∷ xs), node_tokens qs sons others (close ∷ ys)) in
    let p = props_unique ps qs _ _ (nodes_first kids behind) (nodes_first sons further) inner in
    let c = nodes_unique kids sons behind further p.1 in
    let r = nodes_unique rest others xs ys c.1 in
    (cc, r.1)

tree_unique : (t u : Nodes) → tokens_of t ≡ tokens_of u → t ≡ u
tree_unique t u e = (nodes_unique t u [] [] (ap (λ (z : List Token). z ++ (close ∷ [])) e)).0

-- a whole stream is that of one tree
whole_unique : {t u : Nodes} {ts us : List Token} → ts ≡ us → WholeStream t ts → WholeStream u us → t ≡ u
whole_unique {t} {u} {ts} {us} e v w =
    let body = append_cancel_right v.body w.body (finish ∷ []) (sym v.ends ∙ e ∙ w.ends) in
    tree_unique t u (sym v.tokens ∙ ap without_nops body ∙ w.tokens)

pub whole_begins : {tree : Nodes} {ts : List Token} → WholeStream tree ts → Begins ts
whole_begins {tree} {ts} w = record { rest = []; tree = tree; whole = subst (WholeStream tree) (sym (append-nil ts)) w }

-- tokens that begin a whole stream, shortened
shorter : (ts : List Token) (t : Token) (r : List Token) → Begins (ts ++ (t ∷ r)) → Begins (ts ++ (t ∷ []))
shorter ts t r g =
    record {
      rest = r ++ g.rest;
      tree = g.tree;
      whole = subst (WholeStream g.tree) (append_assoc ts (t ∷ r) g.rest ∙ sym (append_assoc ts (t ∷ []) (r ++ g.rest))) g.whole;
    }

-- the token that was read at a place, and where the next one stands
abbrev token_of : Blocks → ℕ → TokenRead → Token
token_of b at (Begin len next) = begin (at + 4) len
token_of b at Close = close
token_of b at (Property name size next) = property (b.strings_begin + name) (name_length_at b.strings name) (at + 12) size
token_of b at Nop = nop
token_of b at End = finish
token_of b at Unsound = nop

abbrev next_of : ℕ → TokenRead → ℕ
next_of at (Begin len next) = next
next_of at Close = at + 4
next_of at (Property name size next) = next
next_of at Nop = at + 4
next_of at End = at + 4
next_of at Unsound = at

-- us are ts and a run from p to q
abbrev Longer : Blocks → List Token → ℕ → List Token → ℕ → Type 0
Longer b ts p us q = (r : List Token) × (us ≡ ts ++ r) × Run b p r q

module _ {b : Blocks} where
  told : {at next : ℕ} {t : Token} → TokenAt b at t next → (token_of b at (forget b t next) ≡ t) × (next_of at (forget b t next) ≡ next)
  told (begin_at c h) = (refl, refl)
  told (close_at c) = (refl, refl)
  told (property_at {offset} {len} c d g le h) =
      let back : b.strings_begin + offset - b.strings_begin ≡ offset = omega arith in
      (rw (back, name_length b.strings offset len h), refl)
  told (nop_at c) = (refl, refl)
  told (finish_at c) = (refl, refl)

  pub token_unique : {at next other : ℕ} {t u : Token} → TokenAt b at t next → TokenAt b at u other → (t ≡ u) × (next ≡ other)
  token_unique {at} {next} {other} {t} {u} h k =
      let same = sym (token_found b at h) ∙ token_found b at k in
      (sym (told h).0 ∙ ap (token_of b at) same ∙ (told k).0, sym (told h).1 ∙ ap (next_of at) same ∙ (told k).1)

  pub token_inside : {at next : ℕ} {t : Token} → TokenAt b at t next → at + 4 ≤ length b.structure
  token_inside (begin_at c h) = c.inside
  token_inside (close_at c) = c.inside
  token_inside (property_at c d g le h) = c.inside
  token_inside (nop_at c) = c.inside
  token_inside (finish_at c) = c.inside

  -- of two runs from one place one begins the other
  compare : {a p q : ℕ} {ts us : List Token} → Run b a ts p → Run b a us q → Longer b ts p us q ⊎ Longer b us q ts p
  compare {us = us} stop k = inl (us, refl, k)
  compare {ts = ts} (more h r) stop = inr (ts, refl, more h r)
  compare (more {at} {next} {to} {t} {ts} h r) (more {next = other} {to = far} {t = u} {ts = us} k s) =
      let same = token_unique h k in
      ⊎_elim
      (λ z. inl (z.0, cc (same.0, z.1), z.2))
      (λ z. inr (z.0, cc (same.0, z.1), z.2))
      (compare {q = far} r (subst (λ (x : ℕ). Run b x us far) (sym same.1) s))

  -- nothing goes on behind a place where the stream is broken
  nothing_on : {p q : ℕ} (h : BrokenAt b p) (r : List Token) → Run b p r q → Begins (h.before ++ r) → (r ≡ []) × (p ≡ q)
  nothing_on h [] stop g = (refl, refl)
  nothing_on h (t ∷ r) (more k s) g = absurd (h.no_token k (shorter h.before t r g))

  -- nothing goes on behind the block's end
  nothing_out : {q : ℕ} (r : List Token) → Run b (length b.structure) r q → (r ≡ []) × (length b.structure ≡ q)
  nothing_out [] stop = (refl, refl)
  nothing_out (t ∷ r) (more k s) = let i = token_inside k in absurd (omega arith)

  pub broken_unique : {p q : ℕ} → BrokenAt b p → BrokenAt b q → p ≡ q
  broken_unique {p} {q} h g =
      ⊎_elim
      (λ z. (nothing_on h z.0 z.2 (subst Begins z.1 g.begins)).1)
      (λ z. sym (nothing_on g z.0 z.2 (subst Begins z.1 h.begins)).1)
      (compare h.stands g.stands)

  -- a block that holds a tree is broken nowhere
  pub holds_sound : {tree : Nodes} {p : ℕ} → Holds b tree → BrokenAt b p → ⊥
  holds_sound {tree} {p} w h =
      ⊎_elim
      (λ z.
      let n = nothing_on h z.0 z.2 (subst Begins z.1 (whole_begins w.whole)) in
      h.not_whole n.1 (subst (WholeStream tree) (z.1 ∙ rw n.0 (append-nil h.before)) w.whole))
      (λ z.
      let n = nothing_out z.0 z.2 in
      h.not_whole (sym n.1) (subst (WholeStream tree) (sym (z.1 ∙ rw n.0 (append-nil w.tokens))) w.whole))
      (compare h.stands w.stands)

  pub holds_unique : {t u : Nodes} → Holds b t → Holds b u → t ≡ u
  holds_unique {t} {u} v w =
      ⊎_elim
      (λ z. sym (whole_unique (z.1 ∙ rw (nothing_out z.0 z.2).0 (append-nil v.tokens)) w.whole v.whole))
      (λ z. whole_unique (z.1 ∙ rw (nothing_out z.0 z.2).0 (append-nil w.tokens)) v.whole w.whole)
      (compare v.stands w.stands)
