-- SPDX-License-Identifier: BSD-2-Clause OR GPL-2.0-or-later
-- Words written into a table one by one. Assumes nothing.
use mathlib.Core.Path.{◌≡◌, sym, ap, ◌∙◌}
use mathlib.Core.List.{List, [], ◌∷◌, ◌++◌}
use Prim.Native.Nat.{ℕ, suc, ◌+◌, ◌^◌, ◌≤◌, ◌<◌}
use native.Mathlib.Omega.{arith}
use lib.ListN.{length, get_or, take, drop, set, length-append}
use lib.Seq.{length-take-le, drop-cons, set_at, append_snoc}
use Rattle.std.specs.Prelude.{All}
use Rattle.std.proofs.lemmas.List.{take_more, append_assoc}
use Rattle.std.proofs.lemmas.List.Elements.{All-cons}

-- a table from whose place s on these words stand, so many of them
abbrev pub Put : List ℕ → List ℕ → ℕ → ℕ → List ℕ → Type 0
Put old words s k table = table ≡ take s old ++ take k words ++ drop (s + k) old

module _
    (old words : List ℕ) (s k : ℕ) {table : List ℕ} (fits : s + length words ≤ length old) (is : Put old words s k table)
    (lt : k < length words) where
  -- the next word
  pub put_more : Put old words s (k + 1) (set table (s + k) (get_or words k 0))
  put_more =
      let word = get_or words k 0 in
      let front = take s old ++ take k words in
      let rest = drop (suc (s + k)) old in
      let long : length front ≡ s + k =
      length-append (take s old) (take k words) ∙ omega (arith, length-take-le s old (omega arith), length-take-le k words (omega arith)) in
      let place : suc (s + k) ≡ s + (k + 1) = omega arith in
      ap (λ (l : List ℕ). set l (s + k) word) (is ∙ ap (λ (l : List ℕ). front ++ l) (drop-cons old (s + k) 0 (omega arith)))
      ∙ set_at front (get_or old (s + k) 0) rest word (s + k) long
      ∙ sym (append_snoc front word rest)
      ∙ ap (λ (l : List ℕ). l ++ rest) (append_assoc (take s old) (take k words) (word ∷ []))
      ∙ ap (λ (l : List ℕ). take s old ++ l ++ rest) (sym (take_more words k 0 lt))
      ∙ ap (λ (i : ℕ). take s old ++ take (k + 1) words ++ drop i old) place

-- the words of a record fit their type
abbrev Words : List ℕ → Type 0
Words = All (λ word. word < 2 ^ 32)

one_more : (word : ℕ) (words : List ℕ) → word < 2 ^ 32 → Words words → Words (word ∷ words)
one_more = All-cons (λ word. word < 2 ^ 32)

no_words : Words []
no_words k d lt = absurd (omega arith)

pub three_words : {a b c : ℕ} → a < 2 ^ 32 → b < 2 ^ 32 → c < 2 ^ 32 → Words (a ∷ b ∷ c ∷ [])
three_words {a} {b} {c} f g h = one_more a (b ∷ c ∷ []) f (one_more b (c ∷ []) g (one_more c [] h no_words))

pub five_words : {a b c d e : ℕ} → a < 2 ^ 32 → b < 2 ^ 32 → c < 2 ^ 32 → d < 2 ^ 32 → e < 2 ^ 32 → Words (a ∷ b ∷ c ∷ d ∷ e ∷ [])
five_words {a} {b} {c} {d} {e} f g h i j = one_more a (b ∷ c ∷ d ∷ e ∷ []) f (one_more b (c ∷ d ∷ e ∷ []) g (three_words h i j))
