-- SPDX-License-Identifier: BSD-2-Clause OR GPL-2.0-or-later
-- The node records of a tree stand depth first. Assumes nothing.
use mathlib.Core.Path.{◌≡◌, sym, ◌∙◌, ap}
use mathlib.Core.Logic.{◌⊎◌, inl, inr, ⊎_elim}
use mathlib.Core.List.{List, [], ◌++◌, append_assoc, append-nil}
use Prim.{Unit, tt}
use Prim.Native.Nat.{ℕ, suc, ◌+◌, ◌*◌, ◌≤◌, ◌<◌}
use native.Mathlib.Omega.{arith}
use native.Mathlib.Nat.{add-zero, eq-or-lt_of_le}
use lib.ListN.{get_or, drop}
use lib.Seq.{drop_at, drop-drop, get_or-drop}
use Rattle.laws.specs.facts.Limits.{no_parent}
use Rattle.laws.proofs.SearchLaws.{lt_or_le}
use Rattle.tables.specs.facts.Board.{node_count, parent_word}
use Rattle.tables.specs.facts.Tree.{Ancestor}
use Rattle.tables.proofs.DepthLaws.{DepthFirst, ancestor_trans}
use Rattle.stream.specs.facts.Tree.{Nodes, empty, node, size_of, node_words}
use Rattle.stream.specs.facts.Stream.{Root, root}
use Rattle.flat.proofs.WordLaws.{words_length}

-- a list without its front, known from a shorter front
drop_more : (l : List ℕ) (m k n : ℕ) {rest : List ℕ} → drop m l ≡ rest → m + k ≡ n → drop n l ≡ drop k rest
drop_more l m k n e f = ap (λ (i : ℕ). drop i l) (sym f) ∙ sym (drop-drop k m l) ∙ ap (drop k) e

module _ (nodes : List ℕ) where
  -- the parent words of a tree's records, from record n on, are those of the table
  abbrev Parents : ℕ → ℕ → Nodes → Type 0
  Parents parent n empty = Unit {0}
  Parents parent n (node name len props children rest) =
      (parent_word nodes n ≡ parent) × Parents n (n + 1) children × Parents parent (n + 1 + size_of children) rest

  placed : (parent n : ℕ) (ns : Nodes) (behind : List ℕ) → drop (3 * n) nodes ≡ node_words parent n ns ++ behind → Parents parent n ns
  unfolding node_words
  placed parent n empty behind e = tt
  placed parent n (node name len props children rest) behind e =
      let m = n + 1 + size_of children in
      let own = node_words n (n + 1) children in
      let late = node_words parent m rest in
      let word = sym (get_or-drop (3 * n) nodes 0 0) ∙ ap (λ (l : List ℕ). get_or l 0 0) e in
      let next = drop_more nodes (3 * n) 3 (3 * (n + 1)) e (omega arith) ∙ append_assoc own late behind in
      let last = drop_more nodes (3 * (n + 1)) (3 * size_of children) (3 * m) next (omega arith) in (
        rw add-zero at word,
        placed n (n + 1) children (late ++ behind) next,
        placed parent m rest behind (last ∙ drop_at own (late ++ behind) (3 * size_of children) (words_length n (n + 1) children)),
      )

  -- the parent of nodes side by side is above them and all below them
  above_all :
      (parent n : ℕ) (ns : Nodes) →
      Parents parent n ns →
      parent < n →
      n + size_of ns ≤ node_count nodes →
      (j : ℕ) →
      n ≤ j →
      j < n + size_of ns →
      Ancestor nodes parent j
  unfolding size_of
  above_all parent n empty h lt le j from to = absurd (omega arith)
  above_all parent n (node name len props children rest) h lt le j from to =
      let top : Ancestor nodes parent n = Ancestor.parent {i = n} (record { inside = omega arith; word = h.0; earlier = lt }) in
      ⊎_elim
      (λ e. rw e at top)
      (λ lo.
      ⊎_elim
      (λ hi. ancestor_trans top (above_all n (n + 1) children h.1 (omega arith) (omega arith) j (omega arith) hi))
      (λ hi. above_all parent (n + 1 + size_of children) rest h.2 (omega arith) (omega arith) j hi (omega arith))
      (lt_or_le j (n + 1 + size_of children)))
      (eq-or-lt_of_le from)

  -- record a is record i or above it
  abbrev Over : ℕ → ℕ → Type 0
  Over a i = (a ≡ i) ⊎ Ancestor nodes a i

  -- each record's parent is the record before it or above that, if this holds of the first
  follow_all :
      (parent n : ℕ) (ns : Nodes) →
      Parents parent n ns →
      parent < n →
      n + size_of ns ≤ node_count nodes →
      ((i : ℕ) → suc i ≡ n → Over parent i) →
      (i : ℕ) →
      n ≤ suc i →
      suc i < n + size_of ns →
      Over (parent_word nodes (suc i)) i
  unfolding size_of
  follow_all parent n empty h lt le first i from to = absurd (omega arith)
  follow_all parent n (node name len props children rest) h lt le first i from to =
      ⊎_elim
      (λ e. rw (rw e at h.0) (first i (sym e)))
      (λ lo.
      ⊎_elim
      (λ hi. follow_all n (n + 1) children h.1 (omega arith) (omega arith) (λ k e. inl (omega arith)) i (omega arith) hi)
      (λ hi. follow_all parent (n + 1 + size_of children) rest h.2 (omega arith) (omega arith) before i hi (omega arith))
      (lt_or_le (suc i) (n + 1 + size_of children)))
      (eq-or-lt_of_le from)
    where
      before : (k : ℕ) → suc k ≡ n + 1 + size_of children → Over parent k
      before k e = inr (above_all parent n (node name len props children rest) h lt le k (omega arith) (omega arith))

-- the records of one node and all below it: the first has no parent, and all stand depth first
pub record TreeOrder (nodes : List ℕ) : Type 0 where
  pub some : 0 < node_count nodes
  pub top : parent_word nodes 0 ≡ no_parent
  pub depth : DepthFirst nodes

pub tree_order : {tree : Nodes} → Root tree → TreeOrder (node_words no_parent 0 tree)
unfolding size_of
tree_order (root {name} {len} {props} {children}) =
    let tree = node name len props children empty in
    let nodes = node_words no_parent 0 tree in
    let long = words_length no_parent 0 tree in
    let h = placed nodes no_parent 0 tree [] (sym (append-nil nodes)) in
    record {
      some = omega arith;
      top = h.0;
      depth = λ i lt. follow_all nodes 0 1 children h.1 (omega arith) (omega arith) (λ k e. inl (omega arith)) i (omega arith) (omega arith);
    }
