-- SPDX-License-Identifier: BSD-2-Clause OR GPL-2.0-or-later
-- A whole walk of a tree: how many `cpus` nodes it counted, and of the only one what is filled from where it begins. Assumes nothing.
use mathlib.Core.Path.{◌≡◌, refl, sym, ◌∙◌, ap}
use mathlib.Core.List.{List, [], ◌∷◌, ◌++◌, append_assoc}
use Prim.Native.Nat.{ℕ, ◌+◌, ◌*◌}
use native.Mathlib.Omega.{arith}
use lib.ListN.{length, length-append}
use Rattle.laws.specs.facts.Limits.{no_parent}
use Rattle.tokens.specs.facts.Token.{Blocks, Token, begin, close, property, nop, finish}
use Rattle.stream.specs.declared.Walk.{Walk}
use Rattle.stream.specs.facts.Tree.{Property, Nodes, empty, node, property_tokens, tokens_of, size_of, node_words, own_words, prop_words, CpusAmong}
use Rattle.stream.specs.facts.Stream.{without_nops, Root, root, Holds}
use Rattle.stream.proofs.StreamLaws.{node_tokens}
use Rattle.stream.proofs.TallyLaws.{Tally, tallied, tally_of, no_tally, tally, child_tally, prop_count, root_tally_lem}
use Rattle.stream.proofs.AmongLaws.{cpus_among, NamesInside, among_is, holds_inside}
use Rattle.flat.specs.facts.Rules.{children_of}
use Rattle.flat.specs.answers.Fill.{Filled, filled_from}
use Rattle.flat.proofs.WordLaws.{words_length}
use Rattle.flat.proofs.FillLaws.{filled}
use Rattle.flat.proofs.CpusLaws.{place_of, OneCpus, child_cpus, one_cpus, cpus_filled}

own_length : (n : ℕ) (ps : List Property) → length (own_words n ps) ≡ 5 * length ps
unfolding own_words
own_length n [] = refl
own_length n (p ∷ ps) = let h = own_length n ps in omega arith

props_words : (n : ℕ) (t : Nodes) → length (prop_words n t) ≡ 5 * prop_count t
unfolding prop_words prop_count
props_words n empty = refl
props_words n (node name len props kids rest) =
    let own = own_words n props in
    let after = n + 1 + size_of kids in
    let a = prop_words (n + 1) kids in
    let c = prop_words after rest in
    omega (arith, own_length n props, props_words (n + 1) kids, props_words after rest, length-append own (a ++ c), length-append a c)

-- NOPs left out of tokens with the end token behind
nops_finish : (ts : List Token) → without_nops (ts ++ (finish ∷ [])) ≡ without_nops ts ++ (finish ∷ [])
unfolding without_nops
nops_finish [] = refl
nops_finish (nop ∷ ts) = nops_finish ts
nops_finish (begin n l ∷ ts) = ap (λ (z : List Token). begin n l ∷ z) (nops_finish ts)
nops_finish (close ∷ ts) = ap (λ (z : List Token). close ∷ z) (nops_finish ts)
nops_finish (property n l v s ∷ ts) = ap (λ (z : List Token). property n l v s ∷ z) (nops_finish ts)
nops_finish (finish ∷ ts) = ap (λ (z : List Token). finish ∷ z) (nops_finish ts)

-- before the root's children
abbrev first_tally : Tally
first_tally = tallied 1 0 0 0 0 0

-- tokens among those of the root's children, among those of the tree and the end token
in_stream :
    (name len : ℕ) (props : List Property) (children : Nodes) (before inner behind : List Token) →
    tokens_of children ≡ before ++ (inner ++ behind) →
    tokens_of (node name len props children empty) ++ (finish ∷ [])
    ≡ (begin name len ∷ (property_tokens props ++ before)) ++ (inner ++ (behind ++ (close ∷ finish ∷ [])))
unfolding tokens_of
in_stream name len props children before inner behind e =
    let last = close ∷ finish ∷ [] in
    let all = inner ++ (behind ++ last) in
    ap (λ (z : List Token). begin name len ∷ z)
    (node_tokens props children empty (finish ∷ [])
    ∙ ap (λ (z : List Token). property_tokens props ++ (z ++ last)) e
    ∙ ap (λ (z : List Token). property_tokens props ++ z)
    (append_assoc before (inner ++ behind) last ∙ ap (λ (z : List Token). before ++ z) (append_assoc inner behind last))
    ∙ sym (append_assoc (property_tokens props) before all))

-- what is counted of a tree is counted of the root's children
counts :
    (bytes : List ℕ) {tree : Nodes} (w : Walk) →
    Root tree →
    tally_of w ≡ tally bytes (tokens_of tree) no_tally →
    let y = child_tally bytes (children_of tree) first_tally in
    (w.cpus ≡ y.cpus) × (w.first ≡ y.first) × (w.nodes ≡ y.nodes) × (w.props ≡ y.props)
unfolding tally
counts bytes w (root {name} {len} {props} {children}) e =
    let f = e ∙ root_tally_lem bytes name len props children in
    (ap (λ (x : Tally). x.cpus) f, ap (λ (x : Tally). x.first) f, ap (λ (x : Tally). x.nodes) f, ap (λ (x : Tally). x.props) f)

-- what is filled from the begin token of a child of the root
child_filled :
    (b : Blocks) {tree c : Nodes} {x y : Tally} →
    Root tree →
    Holds b tree →
    OneCpus (children_of tree) c x y →
    filled_from b.structure b.strings b.strings_begin (place_of c) ≡ filled (node_words no_parent 0 c) (prop_words 0 c) 0 (size_of c)
child_filled b {c = c} (root {name} {len} {props} {children}) h o =
    let before = begin name len ∷ (property_tokens props ++ o.before) in
    cpus_filled b h.tokens before (o.behind ++ (close ∷ finish ∷ [])) h.stands o.one_node
    (ap without_nops h.whole.ends
    ∙ nops_finish h.whole.body
    ∙ ap (λ (z : List Token). z ++ (finish ∷ [])) h.whole.tokens
    ∙ in_stream name len props children o.before (tokens_of c) o.behind o.tokens)

module _ {b : Blocks} {tree : Nodes} (h : Holds b tree) where
  -- the names of the root's children, and of all below them
  inside : NamesInside b.structure (children_of tree)
  unfolding NamesInside
  inside = below tree (holds_inside h)
    where
      below : (t : Nodes) → NamesInside b.structure t → NamesInside b.structure (children_of t)
      below empty i = i
      below (node name len props children rest) i = i.1

  -- the nodes named `cpus` are told apart
  pub among_total : (found : List Nodes) × CpusAmong b.structure (children_of tree) found
  among_total = (cpus_among b.structure (children_of tree), among_is b.structure (children_of tree) inside)

  module _ (w : Walk) (e : tally_of w ≡ tally b.structure (tokens_of tree) no_tally) where
    -- how many there are
    pub how_many : {found : List Nodes} → CpusAmong b.structure (children_of tree) found → w.cpus ≡ length found
    how_many among = (counts b.structure w h.whole.one_root e).0 ∙ child_cpus b.structure first_tally inside among ∙ omega arith

    -- the only one: what is filled from where the walk found it, and both counts
    pub joined :
        {cpus : Nodes} →
        CpusAmong b.structure (children_of tree) (cpus ∷ []) →
        let f = filled_from b.structure b.strings b.strings_begin w.first in
        (f.nodes ≡ node_words no_parent 0 cpus)
        × (f.props ≡ prop_words 0 cpus)
        × (3 * w.nodes ≡ length (node_words no_parent 0 cpus))
        × (5 * w.props ≡ length (prop_words 0 cpus))
    joined {cpus} among =
        let root_is = h.whole.one_root in
        let k = counts b.structure w root_is e in
        let o = one_cpus b.structure first_tally inside among in
        let f = ap (filled_from b.structure b.strings b.strings_begin) (k.1 ∙ o.first) ∙ child_filled b root_is h o in (
          ap (λ (x : Filled). x.nodes) f,
          ap (λ (x : Filled). x.props) f,
          omega (arith, k.2, o.nodes, words_length no_parent 0 cpus),
          omega (arith, k.3, o.props, props_words 0 cpus),
        )
