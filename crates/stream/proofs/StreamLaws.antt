-- SPDX-License-Identifier: BSD-2-Clause OR GPL-2.0-or-later
-- Which token lists are the tokens of a tree: a count of open nodes and whether a property may come decide it. Assumes nothing.
use mathlib.Core.Path.{◌≡◌, refl, sym, ◌∙◌, ap, subst}
use mathlib.Core.Bool.{Bool, true, false}
use mathlib.Core.List.{List, [], ◌∷◌, ◌++◌, append_assoc}
use Prim.Native.Nat.{ℕ, zero, suc}
use native.Mathlib.Omega.{arith}
use lib.ListN.{length}
use Rattle.laws.proofs.SearchLaws.{true_false}
use Rattle.tokens.specs.facts.Token.{Token, begin, close, property, nop, finish}
use Rattle.stream.specs.facts.Tree.{Property, Nodes, empty, node, property_tokens, tokens_of}
use Rattle.stream.specs.facts.Stream.{without_nops, Root, root}

-- With d nodes open, and a property (or, with none open, the root) allowed or not, the tokens close every node.
pub data Leads : ℕ → Bool → List Token → Type 0 where
  done : Leads 0 false []
  skip : {d : ℕ} {f : Bool} {ts : List Token} → Leads d f ts → Leads d f (nop ∷ ts)
  rooted : {n l : ℕ} {ts : List Token} → Leads 1 true ts → Leads 0 true (begin n l ∷ ts)
  deeper : {d n l : ℕ} {f : Bool} {ts : List Token} → Leads (suc (suc d)) true ts → Leads (suc d) f (begin n l ∷ ts)
  up : {d : ℕ} {f : Bool} {ts : List Token} → Leads d false ts → Leads (suc d) f (close ∷ ts)
  own : {d n l v s : ℕ} {ts : List Token} → Leads (suc d) true ts → Leads (suc d) true (property n l v s ∷ ts)

-- where no property is needed one is allowed as well
allow : {d : ℕ} {ts : List Token} → Leads (suc d) false ts → Leads (suc d) true ts
allow (skip h) = skip (allow h)
allow (deeper h) = deeper h
allow (up h) = up h

-- Tokens of a tree lead to the end.
props_lead : {d : ℕ} {ts : List Token} (ps : List Property) → Leads (suc d) true ts → Leads (suc d) true (property_tokens ps ++ ts)
unfolding property_tokens
props_lead [] h = h
props_lead (p ∷ ps) h = own (props_lead ps h)

leads_any : {d : ℕ} {ts : List Token} (f : Bool) → Leads (suc d) false ts → Leads (suc d) f ts
leads_any true h = allow h
leads_any false h = h

-- the tokens of a node and of what follows
pub node_tokens :
    (ps : List Property) (kids rest : Nodes) (ts : List Token) →
    (property_tokens ps ++ (tokens_of kids ++ (close ∷ tokens_of rest))) ++ ts ≡ property_tokens ps ++ (tokens_of kids ++ (close ∷ (tokens_of rest ++ ts)))
node_tokens ps kids rest ts =
    append_assoc (property_tokens ps) (tokens_of kids ++ (close ∷ tokens_of rest)) ts
    ∙ ap (λ (z : List Token). property_tokens ps ++ z) (append_assoc (tokens_of kids) (close ∷ tokens_of rest) ts)

tree_leads : (t : Nodes) (d : ℕ) (f : Bool) (ts : List Token) → Leads (suc d) false ts → Leads (suc d) f (tokens_of t ++ ts)
unfolding tokens_of
tree_leads empty d f ts h = leads_any f h
tree_leads (node n l ps kids rest) d f ts h =
    let inner = tree_leads kids (suc d) true (close ∷ (tokens_of rest ++ ts)) (up (tree_leads rest d false ts h)) in
    deeper (subst (Leads (suc (suc d)) true) (sym (node_tokens ps kids rest ts)) (props_lead ps inner))

pub root_leads : {t : Nodes} → Root t → Leads 0 true (tokens_of t)
unfolding tokens_of
root_leads (root {name} {len} {props} {children}) = rooted (props_lead props (tree_leads children 0 true (close ∷ []) (up done)))

pub nops_lead : (ts : List Token) {d : ℕ} {f : Bool} → Leads d f (without_nops ts) → Leads d f ts
unfolding without_nops
nops_lead [] h = h
nops_lead (nop ∷ ts) h = skip (nops_lead ts h)
nops_lead (begin n l ∷ ts) (rooted h) = rooted (nops_lead ts h)
nops_lead (begin n l ∷ ts) (deeper h) = deeper (nops_lead ts h)
nops_lead (close ∷ ts) (up h) = up (nops_lead ts h)
nops_lead (property n l v s ∷ ts) (own h) = own (nops_lead ts h)
nops_lead (finish ∷ ts) {d = d} {f = f} h = elim h [ ]

-- Tokens that lead to the end are those of a tree: for each open node its further children, and the innermost one's further properties.
unfoldable level_tokens : List Nodes → List Token
level_tokens [] = []
level_tokens (k ∷ ks) = tokens_of k ++ (close ∷ level_tokens ks)

record Levels (d : ℕ) (f : Bool) (ts : List Token) : Type 0 where
  props : List Property
  kids : Nodes
  outer : List Nodes
  none : f ≡ false → props ≡ []
  many : length outer ≡ d
  tokens : without_nops ts ≡ property_tokens props ++ (tokens_of kids ++ (close ∷ level_tokens outer))

record Rooted (ts : List Token) : Type 0 where
  tree : Nodes
  one_root : Root tree
  tokens : without_nops ts ≡ tokens_of tree

abbrev Built : ℕ → Bool → List Token → Type 0
Built zero true ts = Rooted ts
Built zero false ts = without_nops ts ≡ []
Built (suc d) f ts = Levels d f ts

-- what an innermost node that closes leaves
close_built : (d : ℕ) (f : Bool) (ts : List Token) → Built d false ts → Built (suc d) f (close ∷ ts)
unfolding without_nops property_tokens tokens_of level_tokens
close_built zero f ts h =
    record { props = []; kids = empty; outer = []; none = λ e. refl; many = refl; tokens = ap (λ (z : List Token). close ∷ z) h }
close_built (suc d) f ts h =
    record {
      props = [];
      kids = empty;
      outer = h.kids ∷ h.outer;
      none = λ e. refl;
      many = ap suc h.many;
      tokens = rw (h.none refl) at (ap (λ (z : List Token). close ∷ z) h.tokens);
    }

-- a node begins in an open one: it becomes the first of the further children
begin_built : (d n l : ℕ) (f : Bool) (ts : List Token) → Levels (suc d) true ts → Levels d f (begin n l ∷ ts)
unfolding without_nops property_tokens tokens_of level_tokens
begin_built d n l f ts h = go h.outer h.many h.tokens
  where
    go :
        (outer : List Nodes) →
        length outer ≡ suc d →
        without_nops ts ≡ property_tokens h.props ++ (tokens_of h.kids ++ (close ∷ level_tokens outer)) →
        Levels d f (begin n l ∷ ts)
    go [] long e = absurd (omega arith)
    go (k ∷ ks) long e =
        record {
          props = [];
          kids = node n l h.props h.kids k;
          outer = ks;
          none = λ q. refl;
          many = omega arith;
          tokens = ap (λ (z : List Token). begin n l ∷ z) (e ∙ sym (node_tokens h.props h.kids k (close ∷ level_tokens ks)));
        }

root_built : (n l : ℕ) (ts : List Token) → Levels 0 true ts → Rooted (begin n l ∷ ts)
unfolding without_nops property_tokens tokens_of level_tokens
root_built n l ts h = go h.outer h.many h.tokens
  where
    go :
        (outer : List Nodes) →
        length outer ≡ 0 →
        without_nops ts ≡ property_tokens h.props ++ (tokens_of h.kids ++ (close ∷ level_tokens outer)) →
        Rooted (begin n l ∷ ts)
    go [] long e = record { tree = node n l h.props h.kids empty; one_root = root; tokens = ap (λ (z : List Token). begin n l ∷ z) e }
    go (k ∷ ks) long e = absurd (omega arith)

own_built : (d n l v s : ℕ) (ts : List Token) → Levels d true ts → Levels d true (property n l v s ∷ ts)
unfolding without_nops property_tokens
own_built d n l v s ts h =
    record {
      props = record { name = n; len = l; value = v; size = s } ∷ h.props;
      kids = h.kids;
      outer = h.outer;
      none = λ e. true_false refl e;
      many = h.many;
      tokens = ap (λ (z : List Token). property n l v s ∷ z) h.tokens;
    }

nop_built : (d : ℕ) (f : Bool) (ts : List Token) → Built d f ts → Built d f (nop ∷ ts)
unfolding without_nops
nop_built zero true ts h = record { tree = h.tree; one_root = h.one_root; tokens = h.tokens }
nop_built zero false ts h = h
nop_built (suc d) f ts h = record { props = h.props; kids = h.kids; outer = h.outer; none = h.none; many = h.many; tokens = h.tokens }

built : {d : ℕ} {f : Bool} {ts : List Token} → Leads d f ts → Built d f ts
unfolding without_nops
built done = refl
built (skip {d} {f} {ts} h) = nop_built d f ts (built h)
built (rooted {n} {l} {ts} h) = root_built n l ts (built h)
built (deeper {d} {n} {l} {f} {ts} h) = begin_built d n l f ts (built h)
built (up {d} {f} {ts} h) = close_built d f ts (built h)
built (own {d} {n} {l} {v} {s} {ts} h) = own_built d n l v s ts (built h)

-- tokens that lead from the start to the end are those of a tree with one root
pub leads_tree : {ts : List Token} → Leads 0 true ts → (tree : Nodes) × Root tree × (without_nops ts ≡ tokens_of tree)
leads_tree h = let b = built h in (b.tree, b.one_root, b.tokens)
