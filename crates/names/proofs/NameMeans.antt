-- SPDX-License-Identifier: BSD-2-Clause OR GPL-2.0-or-later
-- What the name reader answers, as facts about the name's bytes. Assumes nothing.
use Rattle.std.specs.Prelude.{None, Option, Some}
use mathlib.Core.Path.{◌≡◌, refl, sym, ap, ◌∙◌}
use mathlib.Core.Logic.{◌⊎◌, inl, inr, ⊎_elim}
use mathlib.Core.List.{List, [], ◌∷◌, ◌++◌, append_assoc}
use Prim.Native.Nat.{ℕ, ◌+◌, ◌%◌}
use Rattle.names.specs.declared.TopologyName.{TopologyName}
use Rattle.names.specs.declared.TopologyName.TheVariants.{Socket, Cluster, Core, Thread, Other}
use Rattle.names.specs.facts.Kind.{Kind, word, Named, Says}
use Rattle.names.specs.answers.Name.{named_as, with_number, name_of}
use Rattle.names.specs.steps.Name.{number_after}
use Rattle.names.proofs.DecimalLaws.{not_is, decimal_ends}
use Rattle.names.proofs.WordLaws.{kind_of, name_is}
use Rattle.names.proofs.AfterLaws.{after_named, named_name}

-- an answer tells its kind and its number; Other tells no number
abbrev kind_in : TopologyName → Kind
kind_in (Socket n) = Kind.socket
kind_in (Cluster n) = Kind.cluster
kind_in (Core n) = Kind.core
kind_in (Thread n) = Kind.thread
kind_in Other = Kind.socket

abbrev number_in : TopologyName → Option ℕ
number_in (Socket n) = Some n
number_in (Cluster n) = Some n
number_in (Core n) = Some n
number_in (Thread n) = Some n
number_in Other = None

answered_in : (kind : Kind) (n : ℕ) → (kind_in (named_as kind n) ≡ kind) × (number_in (named_as kind n) ≡ Some n)
answered_in Kind.socket n = (refl, refl)
answered_in Kind.cluster n = (refl, refl)
answered_in Kind.core n = (refl, refl)
answered_in Kind.thread n = (refl, refl)

answered_same : (k j : Kind) (n m : ℕ) → named_as k n ≡ named_as j m → (k ≡ j) × (n ≡ m)
answered_same k j n m h =
    let e : Some n ≡ Some m = sym (answered_in k n).1 ∙ ap number_in h ∙ (answered_in j m).1 in
    (sym (answered_in k n).0 ∙ ap kind_in h ∙ (answered_in j m).0, cc)

answered_other : (kind : Kind) (n : ℕ) → named_as kind n ≡ Other → ⊥
answered_other kind n h = not_is (sym (ap number_in h) ∙ (answered_in kind n).1)

-- Other, or a kind and a number that the name gives
abbrev Reads : List ℕ → Type 0
Reads name = (name_of name ≡ Other) ⊎ ((kind : Kind) × (n : ℕ) × (name_of name ≡ named_as kind n) × Named name kind n)

reads : (name : List ℕ) → Reads name
reads name = go (number_after (word (kind_of name)) name) refl
  where
    answer : name_of name ≡ with_number (kind_of name) (number_after (word (kind_of name)) name)
    answer = name_is name (kind_of name) refl

    go : (x : Option ℕ) → number_after (word (kind_of name)) name ≡ x → Reads name
    go (Some n) e = inr (kind_of name, n, answer ∙ ap (with_number (kind_of name)) e, after_named name (kind_of name) n e)
    go None e = inl (answer ∙ ap (with_number (kind_of name)) e)

name_named : (name : List ℕ) (kind : Kind) (n : ℕ) → name_of name ≡ named_as kind n → Named name kind n
name_named name kind n h = ⊎_elim (λ o. absurd (answered_other kind n (sym h ∙ o))) found (reads name)
  where
    found : (j : Kind) × (m : ℕ) × (name_of name ≡ named_as j m) × Named name j m → Named name kind n
    found t = let s = answered_same t.0 kind t.1 n (sym t.2 ∙ h) in rw (s.0, s.1) at t.3

pub name_means :
    (name : List ℕ) (kind : Kind) (n : ℕ) →
    (name_of name ≡ named_as kind n → Named name kind n) × (Named name kind n → name_of name ≡ named_as kind n)
name_means name kind n = (name_named name kind n, named_name)

pub other_means :
    (name : List ℕ) →
    (name_of name ≡ Other → (kind : Kind) (n : ℕ) → Named name kind n → ⊥) × (((kind : Kind) (n : ℕ) → Named name kind n → ⊥) → name_of name ≡ Other)
other_means name = (
  λ o kind n p. answered_other kind n (sym (named_name p) ∙ o),
  λ h. ⊎_elim (λ o. o) (λ t. absurd (h t.0 t.1 t.3)) (reads name),
)

-- a name gives one kind and one number
pub named_unique : {name : List ℕ} {k j : Kind} {n m : ℕ} → Named name k n → Named name j m → (k ≡ j) × (n ≡ m)
named_unique {name} {k} {j} {n} {m} p q = answered_same k j n m (sym (named_name p) ∙ named_name q)

-- a name ends in the last digit of its number
pub named_ends : {name : List ℕ} {kind : Kind} {n : ℕ} → Named name kind n → (front : List ℕ) × (name ≡ front ++ ((48 + n % 10) ∷ []))
named_ends {name} {kind} {n} p =
    let t = decimal_ends n in
    (word kind ++ t.0, p.bytes ∙ ap (λ (digits : List ℕ). word kind ++ digits) t.1 ∙ sym (append_assoc (word kind) t.0 ((48 + n % 10) ∷ [])))

-- what the reader says of a name
pub name_says : {name : List ℕ} {r : TopologyName} → r ≡ name_of name → (r ≡ name_of name) × Says name r
name_says {name} {r} e = (e, go r e)
  where
    go : (x : TopologyName) → x ≡ name_of name → Says name x
    go (Socket n) q = Says.socket (name_named name Kind.socket n (sym q))
    go (Cluster n) q = Says.cluster (name_named name Kind.cluster n (sym q))
    go (Core n) q = Says.core (name_named name Kind.core n (sym q))
    go (Thread n) q = Says.thread (name_named name Kind.thread n (sym q))
    go Other q = Says.none ((other_means name).0 (sym q))
