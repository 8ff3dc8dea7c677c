-- SPDX-License-Identifier: BSD-2-Clause OR GPL-2.0-or-later
-- At most one word stands at a name's start. Assumes nothing.
use mathlib.Core.Path.{◌≡◌, refl, sym, ap, ap₂, ◌∙◌}
use mathlib.Core.Bool.{Bool, true, false, cond}
use mathlib.Core.List.{List, [], ◌∷◌, ◌++◌}
use Prim.Native.Nat.{ℕ}
use lib.Dec.{eqb}
use lib.ListN.{length, drop, get_or}
use borrow.Author.Tests.{eqb-true, eq-eqb}
use Rattle.laws.proofs.SearchLaws.{true_false}
use Rattle.names.specs.declared.TopologyName.{TopologyName}
use Rattle.names.specs.facts.Kind.{Kind, word}
use Rattle.names.specs.answers.Name.{starts_with, with_number, after_word, name_of}
use Rattle.names.specs.steps.Name.{number_after}

-- a name that begins with a word is the word and what follows it
pub starts_rest : (w name : List ℕ) → starts_with w name ≡ true → name ≡ w ++ drop (length w) name
unfolding starts_with
starts_rest [] name h = refl
starts_rest (w ∷ ws) [] h = true_false h refl
starts_rest (w ∷ ws) (b ∷ bs) h = go (eqb b w) refl (starts_rest ws bs) h
  where
    go :
        (t : Bool) →
        eqb b w ≡ t →
        (starts_with ws bs ≡ true → bs ≡ ws ++ drop (length ws) bs) →
        cond t (starts_with ws bs) false ≡ true →
        b ∷ bs ≡ w ∷ (ws ++ drop (length ws) bs)
    go true e ih g = ap₂ (λ (x : ℕ) (xs : List ℕ). x ∷ xs) (eqb-true b w e) (ih g)
    go false e ih g = true_false g refl

pub starts_append : (w rest : List ℕ) → starts_with w (w ++ rest) ≡ true
unfolding starts_with
starts_append [] rest = refl
starts_append (w ∷ ws) rest = rw (eq-eqb w w refl) (starts_append ws rest)

-- the only kind whose word can stand at the start, by the first two bytes
abbrev pub kind_of : List ℕ → Kind
kind_of name =
    cond (eqb (get_or name 0 0) 115) Kind.socket
    (cond (eqb (get_or name 0 0) 116) Kind.thread (cond (eqb (get_or name 1 0) 108) Kind.cluster Kind.core))

pub kind_append : (kind : Kind) (rest : List ℕ) → kind_of (word kind ++ rest) ≡ kind
kind_append Kind.socket rest = refl
kind_append Kind.cluster rest = refl
kind_append Kind.core rest = refl
kind_append Kind.thread rest = refl

pub each_kind : (P : Kind → Type 0) → P Kind.socket → P Kind.cluster → P Kind.core → P Kind.thread → (kind : Kind) → P kind
each_kind P a b c d Kind.socket = a
each_kind P a b c d Kind.cluster = b
each_kind P a b c d Kind.core = c
each_kind P a b c d Kind.thread = d

-- a word that stands at the start is that kind's, so each test before it fails
module _ (name : List ℕ) (kind : Kind) (h : kind_of name ≡ kind) where
  step :
      (k : Kind) (rest : TopologyName) →
      (starts_with (word k) name ≡ false → rest ≡ with_number kind (number_after (word kind) name)) →
      cond (starts_with (word k) name) (after_word k name) rest ≡ with_number kind (number_after (word kind) name)
  unfolding number_after
  step k rest r = go (starts_with (word k) name) refl
    where
      only : starts_with (word k) name ≡ true → k ≡ kind
      only e = sym (ap kind_of (starts_rest (word k) name e) ∙ kind_append k (drop (length (word k)) name)) ∙ h

      go : (b : Bool) → starts_with (word k) name ≡ b → cond b (after_word k name) rest ≡ with_number kind (number_after (word kind) name)
      go true e =
          let same : after_word k name ≡ with_number k (number_after (word k) name) = rw e in
          same ∙ ap (λ (j : Kind). with_number j (number_after (word j) name)) (only e)
      go false e = r e

  -- the reader's answer, by that kind alone
  pub name_is : name_of name ≡ with_number kind (number_after (word kind) name)
  unfolding name_of number_after
  name_is =
      step Kind.socket _ λ a. step Kind.cluster _ λ b. step Kind.core _ λ c. step Kind.thread _ λ d.
      rw (each_kind (λ (k : Kind). starts_with (word k) name ≡ false) a b c d kind)
