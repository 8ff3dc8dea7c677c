-- SPDX-License-Identifier: BSD-2-Clause OR GPL-2.0-or-later
-- The nodes named `cpus` among nodes side by side, computed; the names of a tree's nodes lie inside its block. Assumes nothing.
use mathlib.Core.Path.{◌≡◌, refl, sym, ◌∙◌, subst}
use mathlib.Core.Bool.{cond}
use mathlib.Core.List.{List, [], ◌∷◌, ◌++◌, append-nil}
use Prim.Native.Nat.{ℕ, ◌+◌, ◌≤◌}
use native.Mathlib.Omega.{arith}
use lib.ListN.{length}
use Rattle.laws.proofs.TestLaws.{cond_both}
use Rattle.laws.proofs.DecideLaws.{decides_not}
use Rattle.tables.specs.facts.Binding.{cpus_word}
use Rattle.tables.specs.answers.Range.{range_is}
use Rattle.tables.proofs.DecideLaws.{range_test}
use Rattle.tokens.specs.facts.Token.{Blocks, Token, begin, close, property, nop, finish, Run, stop, more}
use Rattle.tokens.specs.facts.Token.{begin_at, close_at, property_at, nop_at, finish_at}
use Rattle.stream.specs.facts.Tree.{Property, Nodes, empty, node, property_tokens, tokens_of, CpusAmong, none, named, other}
use Rattle.stream.specs.facts.Stream.{without_nops, Holds}
use Rattle.stream.proofs.StreamLaws.{node_tokens}

unfoldable pub cpus_among : List ℕ → Nodes → List Nodes
cpus_among bytes empty = []
cpus_among bytes (node name len props children rest) =
    cond (range_is bytes name len cpus_word) (node name len props children empty ∷ cpus_among bytes rest) (cpus_among bytes rest)

-- the names of nodes, and of all below them, lie inside the bytes
unfoldable pub NamesInside : List ℕ → Nodes → Type 0
NamesInside bytes empty = 0 ≤ 0
NamesInside bytes (node name len props children rest) = (name + len ≤ length bytes) × NamesInside bytes children × NamesInside bytes rest

pub among_is : (bytes : List ℕ) (ns : Nodes) → NamesInside bytes ns → CpusAmong bytes ns (cpus_among bytes ns)
unfolding cpus_among NamesInside
among_is bytes empty h = none
among_is bytes (node name len props children rest) h =
    let behind = among_is bytes rest h.2 in
    let test = range_test bytes name len cpus_word h.0 in
    cond_both (CpusAmong bytes (node name len props children rest)) (range_is bytes name len cpus_word)
    (node name len props children empty ∷ cpus_among bytes rest)
    (cpus_among bytes rest)
    (λ e. named (test.0 e) behind)
    (λ e. other ((decides_not test).0 e) behind)

pub among_unique : {bytes : List ℕ} {ns : Nodes} {xs ys : List Nodes} → CpusAmong bytes ns xs → CpusAmong bytes ns ys → xs ≡ ys
among_unique none none = refl
among_unique (named e h) (named f g) = cc (among_unique h g)
among_unique (named e h) (other f g) = absurd (f e)
among_unique (other e h) (named f g) = absurd (e f)
among_unique (other e h) (other f g) = among_unique h g

-- the names that begin tokens have lie inside the bytes
unfoldable Named : List ℕ → List Token → Type 0
Named bytes [] = 0 ≤ 0
Named bytes (begin name len ∷ ts) = (name + len ≤ length bytes) × Named bytes ts
Named bytes (close ∷ ts) = Named bytes ts
Named bytes (property n l v s ∷ ts) = Named bytes ts
Named bytes (nop ∷ ts) = Named bytes ts
Named bytes (finish ∷ ts) = Named bytes ts

run_named : {b : Blocks} {at to : ℕ} {ts : List Token} → Run b at ts to → Named b.structure ts
unfolding Named
run_named stop = omega arith
run_named (more (begin_at c h) r) = let i = h.inside in (omega arith, run_named r)
run_named (more (close_at c) r) = run_named r
run_named (more (property_at c d e le h) r) = run_named r
run_named (more (nop_at c) r) = run_named r
run_named (more (finish_at c) r) = run_named r

-- without NOPs, and without what stands behind
body_named : (bytes : List ℕ) (ts us : List Token) → Named bytes (ts ++ us) → Named bytes (without_nops ts)
unfolding Named without_nops
body_named bytes [] us h = omega arith
body_named bytes (begin name len ∷ ts) us h = (h.0, body_named bytes ts us h.1)
body_named bytes (close ∷ ts) us h = body_named bytes ts us h
body_named bytes (property n l v s ∷ ts) us h = body_named bytes ts us h
body_named bytes (nop ∷ ts) us h = body_named bytes ts us h
body_named bytes (finish ∷ ts) us h = body_named bytes ts us h

props_named : (bytes : List ℕ) (ps : List Property) (ts : List Token) → Named bytes (property_tokens ps ++ ts) → Named bytes ts
unfolding Named property_tokens
props_named bytes [] ts h = h
props_named bytes (p ∷ ps) ts h = props_named bytes ps ts h

nodes_named : (bytes : List ℕ) (t : Nodes) (ts : List Token) → Named bytes (tokens_of t ++ ts) → NamesInside bytes t × Named bytes ts
unfolding Named tokens_of NamesInside
nodes_named bytes empty ts h = (omega arith, h)
nodes_named bytes (node name len props kids rest) ts h =
    let inner = props_named bytes props _ (subst (Named bytes) (node_tokens props kids rest ts) h.1) in
    let below = nodes_named bytes kids (close ∷ (tokens_of rest ++ ts)) inner in
    let behind = nodes_named bytes rest ts below.1 in
    ((h.0, below.0, behind.0), behind.1)

-- the names of the tree that a block holds lie inside the block
pub holds_inside : {b : Blocks} {tree : Nodes} → Holds b tree → NamesInside b.structure tree
holds_inside {b} {tree} h =
    let w = h.whole in
    let all = body_named b.structure w.body (finish ∷ []) (subst (Named b.structure) w.ends (run_named h.stands)) in
    (nodes_named b.structure tree [] (subst (Named b.structure) (w.tokens ∙ sym (append-nil (tokens_of tree))) all)).0
