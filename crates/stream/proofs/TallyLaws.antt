-- SPDX-License-Identifier: BSD-2-Clause OR GPL-2.0-or-later
-- What the walk counts, over a list of tokens and over the tokens of a tree. Assumes nothing.
use mathlib.Core.Path.{◌≡◌, refl, ◌∙◌, ap, ap₂}
use mathlib.Core.Bool.{Bool, true, false, cond}
use mathlib.Core.List.{List, [], ◌∷◌, ◌++◌}
use Prim.Native.Nat.{ℕ, suc, ◌+◌, ◌-◌, ◌*◌}
use native.Mathlib.Omega.{arith}
use native.Mathlib.Nat.{mul-zero, mul-suc, mul-add}
use lib.Dec.{eqb}
use lib.ListN.{length}
use borrow.Author.Tests.{ne_eqb}
use Rattle.tokens.specs.facts.Token.{Token, begin, close, property, nop, finish}
use Rattle.stream.specs.declared.Walk.{Walk}
use Rattle.stream.specs.facts.Tree.{Property, Nodes, empty, node, property_tokens, tokens_of, size_of}
use Rattle.stream.specs.facts.Stream.{without_nops}
use Rattle.stream.specs.answers.Walk.{cpus_mark, begun_root, begun_in, begun}
use Rattle.stream.proofs.StreamLaws.{node_tokens}

-- what a walk counts: all but its place, and whether a property may come
pub record Tally : Type 0 where
  pub depth : ℕ
  pub inside : ℕ
  pub cpus : ℕ
  pub first : ℕ
  pub nodes : ℕ
  pub props : ℕ

abbrev pub tallied : ℕ → ℕ → ℕ → ℕ → ℕ → ℕ → Tally
tallied d i c f n p = record { depth = d; inside = i; cpus = c; first = f; nodes = n; props = p }

abbrev pub tally_of : Walk → Tally
tally_of w = tallied w.depth w.inside w.cpus w.first w.nodes w.props

abbrev pub no_tally : Tally
no_tally = tallied 0 0 0 0 0 0

-- how many properties nodes have, with all below them
unfoldable pub prop_count : Nodes → ℕ
prop_count empty = 0
prop_count (node name len props kids rest) = length props + prop_count kids + prop_count rest

-- the tally behind a child of the root; mark is 1 for a child named `cpus`, else 0
abbrev pub counted : ℕ → ℕ → List Property → Nodes → Tally → Tally
counted mark name props kids x =
    record {
      depth = 1;
      inside = mark;
      cpus = x.cpus + mark;
      first = cond (eqb mark 1) (name - 4) x.first;
      nodes = x.nodes + mark + mark * size_of kids;
      props = x.props + mark * (length props + prop_count kids);
    }

module _ (bytes : List ℕ) where
  abbrev root_tally : ℕ → ℕ → Tally → Tally
  root_tally name len x =
      let mark = cpus_mark bytes name len in
      tallied 2 mark (x.cpus + mark) (cond (eqb mark 1) (name - 4) x.first) (x.nodes + mark) x.props

  abbrev inner_tally : Tally → Tally
  inner_tally x = tallied (x.depth + 1) x.inside x.cpus x.first (x.nodes + x.inside) x.props

  abbrev pub tally_one : Token → Tally → Tally
  tally_one (begin name len) x = cond (eqb x.depth 1) (root_tally name len x) (inner_tally x)
  tally_one close x = tallied (x.depth - 1) x.inside x.cpus x.first x.nodes x.props
  tally_one (property n l v s) x = tallied x.depth x.inside x.cpus x.first x.nodes (x.props + x.inside)
  tally_one nop x = x
  tally_one finish x = x

  unfoldable pub tally : List Token → Tally → Tally
  tally [] x = x
  tally (t ∷ ts) x = tally ts (tally_one t x)

  pub tally_snoc : (ts : List Token) (t : Token) (x : Tally) → tally (ts ++ (t ∷ [])) x ≡ tally_one t (tally ts x)
  unfolding tally
  tally_snoc [] t x = refl
  tally_snoc (u ∷ ts) t x = tally_snoc ts t (tally_one u x)

  pub tally_nops : (ts : List Token) (x : Tally) → tally ts x ≡ tally (without_nops ts) x
  unfolding tally without_nops
  tally_nops [] x = refl
  tally_nops (nop ∷ ts) x = tally_nops ts x
  tally_nops (begin n l ∷ ts) x = tally_nops ts (tally_one (begin n l) x)
  tally_nops (close ∷ ts) x = tally_nops ts (tally_one close x)
  tally_nops (property n l v s ∷ ts) x = tally_nops ts (tally_one (property n l v s) x)
  tally_nops (finish ∷ ts) x = tally_nops ts x

  -- the walk counts a begun node
  pub begun_tally : (w : Walk) (len next : ℕ) → tally_of (begun bytes w len next) ≡ tally_one (begin (w.at + 4) len) (tally_of w)
  unfolding begun
  begun_tally w len next = go (eqb w.depth 1)
    where
      back : w.at + 4 - 4 ≡ w.at
      back = omega arith

      go :
          (t : Bool) →
          tally_of (cond t (begun_root bytes w len next) (begun_in w next)) ≡ cond t (root_tally (w.at + 4) len (tally_of w)) (inner_tally (tally_of w))
      go true = rw back
      go false = refl

  -- the properties of a node
  own_tally :
      (ps : List Property) (ts : List Token) (d i c f n p : ℕ) →
      tally (property_tokens ps ++ ts) (tallied d i c f n p) ≡ tally ts (tallied d i c f n (p + i * length ps))
  unfolding tally property_tokens
  own_tally [] ts d i c f n p = ap (λ (x : ℕ). tally ts (tallied d i c f n x)) (omega (arith, mul-zero i))
  own_tally (q ∷ ps) ts d i c f n p =
      own_tally ps ts d i c f n (p + i) ∙ ap (λ (x : ℕ). tally ts (tallied d i c f n x)) (omega (arith, mul-suc i (length ps)))

  -- nodes below a child of the root
  deep_tally :
      (t : Nodes) (ts : List Token) (d i c f n p : ℕ) →
      tally (tokens_of t ++ ts) (tallied (suc (suc d)) i c f n p) ≡ tally ts (tallied (suc (suc d)) i c f (n + i * size_of t) (p + i * prop_count t))
  unfolding tally tokens_of size_of prop_count
  deep_tally empty ts d i c f n p =
      let z = mul-zero i in
      ap₂ (λ (x y : ℕ). tally ts (tallied (suc (suc d)) i c f x y)) (omega arith) (omega arith)
  deep_tally (node name len props kids rest) ts d i c f n p =
      let inner = tokens_of kids ++ (close ∷ (tokens_of rest ++ ts)) in
      let all = tallied (suc (suc d)) i c f n p in
      let away : eqb (suc (suc d)) 1 ≡ false = ne_eqb (suc (suc d)) 1 (λ e. omega arith) in
      let up : suc (suc d) + 1 ≡ suc (suc (suc d)) = omega arith in
      let down : suc (suc (suc d)) - 1 ≡ suc (suc d) = omega arith in
      let one : 1 + size_of kids + size_of rest ≡ suc (size_of kids + size_of rest) = omega arith in
      let p1 = p + i * length props in
      let n2 = n + i + i * size_of kids in
      let p2 = p1 + i * prop_count kids in
      ap₂ (λ (x : Bool) (z : List Token). tally z (cond x (root_tally name len all) (inner_tally all))) away (node_tokens props kids rest ts)
      ∙ ap (λ (x : ℕ). tally (property_tokens props ++ inner) (tallied x i c f (n + i) p)) up
      ∙ own_tally props inner (suc (suc (suc d))) i c f (n + i) p
      ∙ deep_tally kids (close ∷ (tokens_of rest ++ ts)) (suc d) i c f (n + i) p1
      ∙ ap (λ (x : ℕ). tally (tokens_of rest ++ ts) (tallied x i c f n2 p2)) down
      ∙ deep_tally rest ts d i c f n2 p2
      ∙ ap₂ (λ (x y : ℕ). tally ts (tallied (suc (suc d)) i c f x y))
      (omega (arith, mul-suc i (size_of kids + size_of rest), mul-add i (size_of kids) (size_of rest), ap (λ (x : ℕ). i * x) one))
      (omega (arith, mul-add i (length props + prop_count kids) (prop_count rest), mul-add i (length props) (prop_count kids)))

  -- the tally of the root's children: `cpus` among them, where the last one begins, and what they hold
  unfoldable pub child_tally : Nodes → Tally → Tally
  child_tally empty x = x
  child_tally (node name len props kids rest) x = child_tally rest (counted (cpus_mark bytes name len) name props kids x)

  pub children_tally :
      (t : Nodes) (ts : List Token) (i c f n p : ℕ) →
      tally (tokens_of t ++ ts) (tallied 1 i c f n p) ≡ tally ts (child_tally t (tallied 1 i c f n p))
  unfolding tally tokens_of child_tally
  children_tally empty ts i c f n p = refl
  children_tally (node name len props kids rest) ts i c f n p =
      let inner = tokens_of kids ++ (close ∷ (tokens_of rest ++ ts)) in
      let mark = cpus_mark bytes name len in
      let f1 = cond (eqb mark 1) (name - 4) f in
      let c1 = c + mark in
      let n1 = n + mark in
      let p1 = p + mark * length props in
      let n2 = n1 + mark * size_of kids in
      ap (λ (z : List Token). tally z (tallied 2 mark c1 f1 n1 p)) (node_tokens props kids rest ts)
      ∙ own_tally props inner 2 mark c1 f1 n1 p
      ∙ deep_tally kids (close ∷ (tokens_of rest ++ ts)) 0 mark c1 f1 n1 p1
      ∙ children_tally rest ts mark c1 f1 n2 (p1 + mark * prop_count kids)
      ∙ ap (λ (x : ℕ). tally ts (child_tally rest (tallied 1 mark c1 f1 n2 x))) (omega (arith, mul-add mark (length props) (prop_count kids)))

  -- the tally of a whole tree
  pub root_tally_lem :
      (name len : ℕ) (props : List Property) (kids : Nodes) →
      tally (tokens_of (node name len props kids empty)) no_tally ≡ tally (close ∷ []) (child_tally kids (tallied 1 0 0 0 0 0))
  unfolding tally tokens_of
  root_tally_lem name len props kids =
      own_tally props (tokens_of kids ++ (close ∷ [])) 1 0 0 0 0 0
      ∙ ap (λ (x : ℕ). tally (tokens_of kids ++ (close ∷ [])) (tallied 1 0 0 0 0 x)) (omega arith)
      ∙ children_tally kids (close ∷ []) 0 0 0 0 0
