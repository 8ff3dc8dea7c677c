-- SPDX-License-Identifier: BSD-2-Clause OR GPL-2.0-or-later
-- Filling the tables from the tokens of a tree gives the tree's records. Assumes nothing.
use mathlib.Core.Path.{◌≡◌, refl, sym, ◌∙◌, ap, ap₂}
use mathlib.Core.Bool.{cond}
use mathlib.Core.List.{List, [], ◌∷◌, ◌++◌, append-nil, append_assoc}
use Prim.Native.Nat.{ℕ, ◌+◌, ◌*◌, ◌<◌}
use native.Mathlib.Omega.{arith}
use lib.ListN.{length, get_or, length-append, get_or-append}
use lib.Seq.{get_or_at}
use borrow.Author.Tests.{lt-ltb}
use Rattle.laws.specs.facts.Limits.{no_parent}
use Rattle.tokens.specs.facts.Token.{Token, begin, close, property, nop, finish}
use Rattle.stream.specs.facts.Tree.{Property, Nodes, empty, node, property_tokens, tokens_of, size_of, node_words, own_words, prop_words}
use Rattle.stream.specs.facts.Stream.{without_nops, Root, root}
use Rattle.stream.proofs.StreamLaws.{node_tokens}
use Rattle.flat.specs.answers.Fill.{Filled, fill_start, node_added, prop_added, has_outer, node_closed}
use Rattle.flat.proofs.WordLaws.{words_length}

-- the filling over a list of tokens, up to the close token of record 0
unfoldable pub fill_list : List Token → Filled → Filled
fill_list [] f = f
fill_list (begin name len ∷ ts) f = fill_list ts (node_added f name len)
fill_list (close ∷ ts) f = cond (has_outer f.open_record f.count) (fill_list ts (node_closed f)) f
fill_list (property name len value size ∷ ts) f = fill_list ts (prop_added f name len value size)
fill_list (nop ∷ ts) f = fill_list ts f
fill_list (finish ∷ ts) f = f

abbrev pub filled : List ℕ → List ℕ → ℕ → ℕ → Filled
filled nodes props o n = record { nodes = nodes; props = props; open_record = o; count = n }

same_filled : {N N' P P' : List ℕ} (o : ℕ) {n n' : ℕ} → N ≡ N' → P ≡ P' → n ≡ n' → filled N P o n ≡ filled N' P' o n'
same_filled {N} {N'} {P} {P'} o {n} {n'} a b c = ap₂ (λ (x y : List ℕ). filled x y o n) a b ∙ ap (filled N' P' o) c

-- the properties of the open record
own_fill :
    (ps : List Property) (ts : List Token) (N P : List ℕ) (o n : ℕ) →
    fill_list (property_tokens ps ++ ts) (filled N P o n) ≡ fill_list ts (filled N (P ++ own_words o ps) o n)
unfolding fill_list property_tokens own_words
own_fill [] ts N P o n = ap (λ (z : List ℕ). fill_list ts (filled N z o n)) (sym (append-nil P))
own_fill (p ∷ ps) ts N P o n =
    let w = o ∷ p.name ∷ p.len ∷ p.value ∷ p.size ∷ [] in
    own_fill ps ts N (P ++ w) o n ∙ ap (λ (z : List ℕ). fill_list ts (filled N z o n)) (append_assoc P w (own_words o ps))

-- a close token of a record other than 0
closing :
    (N P : List ℕ) (o n : ℕ) (ts : List Token) →
    o < n →
    0 < o →
    fill_list (close ∷ ts) (filled N P o n) ≡ fill_list ts (filled N P (get_or N (3 * o) 0) n)
unfolding fill_list has_outer
closing N P o n ts lt pos = rw (lt-ltb 0 o pos, lt-ltb o n lt)

-- Nodes behind n records, one at least, with record o open: their records are added, and o is open again.
tree_fill :
    (t : Nodes) (ts : List Token) (N P : List ℕ) (o n : ℕ) →
    length N ≡ 3 * n →
    0 < n →
    fill_list (tokens_of t ++ ts) (filled N P o n) ≡ fill_list ts (filled (N ++ node_words o n t) (P ++ prop_words n t) o (n + size_of t))
unfolding fill_list tokens_of node_words prop_words size_of
tree_fill empty ts N P o n long pos = ap (fill_list ts) (same_filled o (sym (append-nil N)) (sym (append-nil P)) (omega arith))
tree_fill (node name len props kids rest) ts N P o n long pos =
    let own = o ∷ name ∷ len ∷ [] in
    let N1 = N ++ own in
    let P1 = P ++ own_words n props in
    let kid_words = node_words n (n + 1) kids in
    let kid_props = prop_words (n + 1) kids in
    let after = n + 1 + size_of kids in
    let N2 = N1 ++ kid_words in
    let P2 = P1 ++ kid_props in
    let rest_words = node_words o after rest in
    let rest_props = prop_words after rest in
    let l0 = length-append N own in
    let l1 : length N1 ≡ 3 * (n + 1) = omega (arith, long, l0) in
    let l2 : length N2 ≡ 3 * after = omega (arith, l1, length-append N1 kid_words, words_length n (n + 1) kids) in
    let parent : get_or N2 (3 * n) 0 ≡ o =
    get_or-append N1 kid_words 0 (3 * n) (omega (arith, l1)) ∙ get_or_at N o (name ∷ len ∷ []) 0 (3 * n) long in
    ap (λ (z : List Token). fill_list z (filled N1 P n (n + 1))) (node_tokens props kids rest ts)
    ∙ own_fill props (tokens_of kids ++ (close ∷ (tokens_of rest ++ ts))) N1 P n (n + 1)
    ∙ tree_fill kids (close ∷ (tokens_of rest ++ ts)) N1 P1 n (n + 1) l1 (omega arith)
    ∙ closing N2 P2 n after (tokens_of rest ++ ts) (omega arith) pos
    ∙ ap (λ (x : ℕ). fill_list (tokens_of rest ++ ts) (filled N2 P2 x after)) parent
    ∙ tree_fill rest ts N2 P2 o after l2 (omega arith)
    ∙ ap (fill_list ts)
    (same_filled o
    (append_assoc N1 kid_words rest_words ∙ append_assoc N own (kid_words ++ rest_words))
    (append_assoc P1 kid_props rest_props ∙ append_assoc P (own_words n props) (kid_props ++ rest_props))
    (omega arith))

-- A node with all below it, from nothing: its records, whatever comes behind its close token.
pub node_fill :
    {c : Nodes} →
    Root c →
    (ts : List Token) →
    fill_list (tokens_of c ++ ts) fill_start ≡ filled (node_words no_parent 0 c) (prop_words 0 c) 0 (size_of c)
unfolding fill_list has_outer tokens_of node_words prop_words size_of
node_fill (root {name} {len} {props} {children}) ts =
    let own = no_parent ∷ name ∷ len ∷ [] in
    let owned = own_words 0 props in
    ap (λ (z : List Token). fill_list z (filled own [] 0 1)) (node_tokens props children empty ts)
    ∙ own_fill props (tokens_of children ++ (close ∷ ts)) own [] 0 1
    ∙ tree_fill children (close ∷ ts) own owned 0 1 refl (omega arith)
    ∙ same_filled 0
    (ap (λ (z : List ℕ). own ++ z) (sym (append-nil (node_words 0 1 children))))
    (ap (λ (z : List ℕ). owned ++ z) (sym (append-nil (prop_words 1 children))))
    (omega arith)

pub fill_nops : (ts : List Token) (f : Filled) → fill_list ts f ≡ fill_list (without_nops ts) f
unfolding fill_list without_nops
fill_nops [] f = refl
fill_nops (nop ∷ ts) f = fill_nops ts f
fill_nops (begin n l ∷ ts) f = fill_nops ts (node_added f n l)
fill_nops (close ∷ ts) f = ap (λ (x : Filled). cond (has_outer f.open_record f.count) x f) (fill_nops ts (node_closed f))
fill_nops (property n l v s ∷ ts) f = fill_nops ts (prop_added f n l v s)
fill_nops (finish ∷ ts) f = refl
