-- SPDX-License-Identifier: BSD-2-Clause OR GPL-2.0-or-later
-- The names and values of a blob's tree lie in the blob. Assumes nothing.
use mathlib.Core.Path.{subst}
use mathlib.Core.List.{List, [], ◌∷◌, ◌++◌}
use Prim.{Unit, tt}
use Prim.Native.Nat.{ℕ, ◌+◌}
use native.Mathlib.Omega.{arith}
use lib.ListN.{drop, length-take, length-drop}
use Rattle.header.specs.facts.Header.{structure_at, structure_size, strings_at, strings_size, blocks_of}
use Rattle.tables.specs.facts.Board.{Inside}
use Rattle.tokens.specs.facts.Token.{Token, begin, close, property, nop, finish, TokenAt, begin_at, close_at, property_at, nop_at, finish_at}
use Rattle.tokens.specs.facts.Token.{Run, stop, more}
use Rattle.stream.specs.facts.Tree.{Nodes, empty, node, property_tokens, tokens_of, CpusAmong, named, other}
use Rattle.stream.specs.facts.Stream.{without_nops, Root, root, Holds}
use Rattle.flat.specs.facts.Rules.{children_of, Cpus}

module _ (blob : List ℕ) where
  -- the data of a token lie in the blob
  abbrev Within : Token → Type 0
  Within (begin name len) = Inside blob name len
  Within close = Unit {0}
  Within (property name len value size) = Inside blob name len × Inside blob value size
  Within nop = Unit {0}
  Within finish = Unit {0}

  abbrev pub AllWithin : List Token → Type 0
  AllWithin [] = Unit {0}
  AllWithin (t ∷ ts) = Within t × AllWithin ts

  -- the names and values of nodes lie in the blob
  abbrev pub TreeWithin : Nodes → Type 0
  TreeWithin empty = Unit {0}
  TreeWithin (node name len props children rest) =
      Inside blob name len × AllWithin (property_tokens props) × TreeWithin children × TreeWithin rest

  within_append : (ts us : List Token) → AllWithin (ts ++ us) → AllWithin ts × AllWithin us
  within_append [] us h = (tt, h)
  within_append (t ∷ ts) us h = let g = within_append ts us h.1 in ((h.0, g.0), g.1)

  within_nops : (ts : List Token) → AllWithin ts → AllWithin (without_nops ts)
  unfolding without_nops
  within_nops [] h = tt
  within_nops (nop ∷ ts) h = within_nops ts h.1
  within_nops (begin n l ∷ ts) h = (h.0, within_nops ts h.1)
  within_nops (close ∷ ts) h = (tt, within_nops ts h.1)
  within_nops (property n l v s ∷ ts) h = (h.0, within_nops ts h.1)
  within_nops (finish ∷ ts) h = (tt, within_nops ts h.1)

  within_tree : (tree : Nodes) → AllWithin (tokens_of tree) → TreeWithin tree
  unfolding tokens_of
  within_tree empty h = tt
  within_tree (node name len props children rest) h =
      let g = within_append (property_tokens props) (tokens_of children ++ (close ∷ tokens_of rest)) h.1 in
      let k = within_append (tokens_of children) (close ∷ tokens_of rest) g.1 in
      (h.0, g.0, within_tree children k.0, within_tree rest k.1.1)

  -- tokens that stand in the blob
  token_within : {at next : ℕ} {t : Token} → TokenAt (blocks_of blob) at t next → Within t
  token_within (begin_at c s) = let l = s.inside in omega (arith, length-take (structure_at blob + structure_size blob) blob)
  token_within (close_at c) = tt
  token_within (property_at c d e le s) =
      let l = s.inside in
      let from = strings_at blob in (
        omega (arith, length-take (strings_size blob) (drop from blob), length-drop from blob),
        omega (arith, length-take (structure_at blob + structure_size blob) blob),
      )
  token_within (nop_at c) = tt
  token_within (finish_at c) = tt

  run_within : {at to : ℕ} {ts : List Token} → Run (blocks_of blob) at ts to → AllWithin ts
  run_within stop = tt
  run_within (more h r) = (token_within h, run_within r)

  holds_within : {tree : Nodes} → Holds (blocks_of blob) tree → TreeWithin tree
  holds_within {tree} h =
      let w = h.whole in
      let ts = subst AllWithin w.ends (run_within h.stands) in
      within_tree tree (subst AllWithin w.tokens (within_nops w.body (within_append w.body _ ts).0))

  children_within : (tree : Nodes) → TreeWithin tree → TreeWithin (children_of tree)
  children_within empty h = tt
  children_within (node name len props children rest) h = h.2

  -- a node named `cpus` is one node
  among_within : {bytes : List ℕ} {nodes cpus : Nodes} → CpusAmong bytes nodes (cpus ∷ []) → TreeWithin nodes → Root cpus × TreeWithin cpus
  among_within (named e among) h = (root, (h.0, h.1, h.2, tt))
  among_within (other e among) h = among_within among h.3

  pub cpus_within : {cpus : Nodes} → Cpus blob cpus → Root cpus × TreeWithin cpus
  cpus_within h = among_within h.among (children_within h.tree (holds_within h.holds))
