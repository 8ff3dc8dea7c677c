-- SPDX-License-Identifier: BSD-2-Clause OR GPL-2.0-or-later
-- The token stream of a structure block: whole, the beginning of a whole one, or broken at a place.
use Rattle.std.specs.Prelude.{◌≡◌, List, [], ◌∷◌, ◌++◌, ℕ, length}
use Rattle.tokens.specs.facts.Token.{Blocks, Token, begin, close, property, nop, finish, TokenAt, Run}
use Rattle.stream.specs.facts.Tree.{Property, Nodes, node, empty, tokens_of}

-- the tokens that are no NOP
unfoldable pub without_nops : List Token → List Token
without_nops [] = []
without_nops (nop ∷ ts) = without_nops ts
without_nops (begin n l ∷ ts) = begin n l ∷ without_nops ts
without_nops (close ∷ ts) = close ∷ without_nops ts
without_nops (property n l v s ∷ ts) = property n l v s ∷ without_nops ts
without_nops (finish ∷ ts) = finish ∷ without_nops ts

-- a tree has one node that is nobody's child, the root
pub data Root : Nodes → Type 0 where
  root : {name len : ℕ} {props : List Property} {children : Nodes} → Root (node name len props children empty)

-- a whole stream: the tokens of a tree, NOPs left out, and then the end token
pub record WholeStream (tree : Nodes) (ts : List Token) : Type 0 where
  pub one_root : Root tree
  pub body : List Token
  pub ends : ts ≡ body ++ (finish ∷ [])
  pub tokens : without_nops body ≡ tokens_of tree

-- tokens that begin a whole stream
pub record Begins (ts : List Token) : Type 0 where
  pub rest : List Token
  pub tree : Nodes
  pub whole : WholeStream tree (ts ++ rest)

-- the structure block holds a tree: its tokens, from the block's start to its end, are a whole stream
pub record Holds (b : Blocks) (tree : Nodes) : Type 0 where
  pub tokens : List Token
  pub stands : Run b b.start tokens (length b.structure)
  pub whole : WholeStream tree tokens

-- The token at p, or the block's end p, breaks the structure: the tokens before p begin a whole stream, no token at p goes on with one,
-- and if p is the block's end, they are not a whole one.
pub record BrokenAt (b : Blocks) (p : ℕ) : Type 0 where
  pub before : List Token
  pub stands : Run b b.start before p
  pub begins : Begins before
  pub no_token : {t : Token} {next : ℕ} → TokenAt b p t next → Begins (before ++ (t ∷ [])) → ⊥
  pub not_whole : p ≡ length b.structure → {tree : Nodes} → WholeStream tree before → ⊥
