-- SPDX-License-Identifier: BSD-2-Clause OR GPL-2.0-or-later
-- The four bytes of a word, and one word more written behind others. Assumes nothing.
use mathlib.Core.Path.{◌≡◌, sym, ap, ◌∙◌}
use mathlib.Core.List.{List, [], ◌∷◌, ◌++◌}
use Prim.Native.Nat.{ℕ, ◌+◌, ◌*◌, ◌-◌, ◌/◌, ◌%◌, ◌≤◌, ◌<◌}
use native.Mathlib.Numerals.{add-one}
use native.Mathlib.Omega.{arith}
use lib.ListN.{length, get_or, take, drop, length-drop}
use lib.Seq.{length-take-le, take-suc}
use borrow.Rule.Slice.PartMut.{mid_of, put_mid}
use Rattle.laws.proofs.PartLaws.{part_is, block_more}
use Rattle.wire.specs.facts.Bytes.{bytes_of, in_bytes, word_size}
use Rattle.wire.specs.answers.Put.{with_words}
use Rattle.wire.proofs.ByteLaws.{in_length, in_append, with_words_lem}

pub word_bytes : (w : ℕ) → w % 256 ∷ w / 256 % 256 ∷ w / 65536 % 256 ∷ w / 16777216 % 256 ∷ [] ≡ in_bytes word_size (w ∷ [])
unfolding in_bytes bytes_of
word_bytes w =
    let two : w / 256 / 256 ≡ w / 65536 = omega arith in
    let three : w / 256 / 256 / 256 ≡ w / 16777216 = omega arith in
    rw (three, two)

-- a part from word k on, lent to be written
pub put_more :
    (words old xs ys : List ℕ) (k : ℕ) →
    k < length words →
    word_size * k + word_size ≤ length xs →
    xs ≡ in_bytes word_size (take k words) ++ drop (word_size * k) old →
    ys ≡ with_words (get_or words k 0 ∷ []) (mid_of (word_size * k) (length xs - word_size * k) xs) →
    put_mid (word_size * k) (length xs - word_size * k) xs ys ≡ in_bytes word_size (take (k + 1) words) ++ drop (word_size * (k + 1)) old
put_more words old xs ys k lt room e h =
    block_more at word_size done new old xs ys long e (h ∙ with_words_lem (get_or words k 0 ∷ []) part fits)
    ∙ ap (λ (l : List ℕ). l ++ drop (at + word_size) old) grown
    ∙ ap (λ (n : ℕ). in_bytes word_size (take (k + 1) words) ++ drop n old) next
  where
    at : ℕ
    at = word_size * k

    done : List ℕ
    done = in_bytes word_size (take k words)

    new : List ℕ
    new = in_bytes word_size (get_or words k 0 ∷ [])

    part : List ℕ
    part = mid_of (word_size * k) (length xs - word_size * k) xs

    fits : word_size * 1 ≤ length part
    fits = rw (part_is (word_size * k) xs, length-drop (word_size * k) xs) (omega arith)

    long : length done ≡ at
    long = in_length word_size (take k words) ∙ ap (λ (n : ℕ). word_size * n) (length-take-le k words (omega arith))

    grown : done ++ new ≡ in_bytes word_size (take (k + 1) words)
    grown = sym (in_append word_size (take k words) (get_or words k 0 ∷ [])) ∙ ap (in_bytes word_size) (rw add-one (sym (take-suc words k 0 lt)))

    next : at + word_size ≡ word_size * (k + 1)
    next = omega arith
