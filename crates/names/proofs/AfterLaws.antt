-- SPDX-License-Identifier: BSD-2-Clause OR GPL-2.0-or-later
-- A number after a kind's word is exactly a name of that kind. Assumes nothing.
use Rattle.std.specs.Prelude.{None, Some}
use mathlib.Core.Path.{◌≡◌, refl, sym, ap, ◌∙◌}
use mathlib.Core.Bool.{Bool, true, false, cond}
use mathlib.Core.List.{List, ◌++◌}
use Prim.Native.Nat.{ℕ}
use lib.ListN.{length, drop}
use lib.Seq.{drop_at}
use Rattle.names.specs.declared.TopologyName.TheVariants.{Other}
use Rattle.names.specs.facts.Kind.{Kind, word, decimal, Named}
use Rattle.names.specs.answers.Name.{named_as, starts_with, number_of, with_number, name_of}
use Rattle.names.specs.steps.Name.{number_after}
use Rattle.names.proofs.DecimalLaws.{not_is, number_decimal, decimal_number}
use Rattle.names.proofs.WordLaws.{starts_rest, starts_append, kind_of, kind_append, each_kind, name_is}

pub after_named : (name : List ℕ) (kind : Kind) (n : ℕ) → number_after (word kind) name ≡ Some n → Named name kind n
unfolding number_after
after_named name kind n h = go (starts_with (word kind) name) refl h
  where
    go : (b : Bool) → starts_with (word kind) name ≡ b → cond b (number_of (drop (length (word kind)) name)) None ≡ Some n → Named name kind n
    go true e g =
        let t = decimal_number (drop (length (word kind)) name) n g in
        record { small = t.0; bytes = starts_rest (word kind) name e ∙ ap (λ (l : List ℕ). word kind ++ l) t.1 }
    go false e g = not_is g

named_after : {name : List ℕ} {kind : Kind} {n : ℕ} → Named name kind n → number_after (word kind) name ≡ Some n
unfolding number_after
named_after {name} {kind} {n} p =
    rw (p.bytes, starts_append (word kind) (decimal n), drop_at (word kind) (decimal n) (length (word kind)) refl)
    (number_decimal n p.small)

pub named_name : {name : List ℕ} {kind : Kind} {n : ℕ} → Named name kind n → name_of name ≡ named_as kind n
named_name {name} {kind} {n} p =
    name_is name kind (ap kind_of p.bytes ∙ kind_append kind (decimal n)) ∙ ap (with_number kind) (named_after p)

-- the reader tries each word: a number after one word is the answer, and none after any is Other
pub after_name : (name : List ℕ) (kind : Kind) (n : ℕ) → number_after (word kind) name ≡ Some n → named_as kind n ≡ name_of name
after_name name kind n h = sym (named_name (after_named name kind n h))

pub after_none :
    (name : List ℕ) →
    number_after (word Kind.socket) name ≡ None →
    number_after (word Kind.cluster) name ≡ None →
    number_after (word Kind.core) name ≡ None →
    number_after (word Kind.thread) name ≡ None →
    Other ≡ name_of name
after_none name a b c d =
    let h = each_kind (λ (kind : Kind). number_after (word kind) name ≡ None) a b c d (kind_of name) in
    sym (name_is name (kind_of name) refl ∙ ap (with_number (kind_of name)) h)
