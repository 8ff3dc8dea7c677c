-- SPDX-License-Identifier: BSD-2-Clause OR GPL-2.0-or-later
-- Numbers in bytes: how long they are, and that each way reads back what the other wrote. Assumes nothing.
use mathlib.Core.Path.{◌≡◌, refl, sym, ap, ap₂, ◌∙◌}
use mathlib.Core.List.{List, [], ◌∷◌, ◌++◌, append_assoc}
use Prim.Native.Nat.{ℕ, zero, suc, ◌+◌, ◌*◌, ◌-◌, ◌/◌, ◌%◌, ◌^◌, ◌≤◌, ◌<◌}
use native.Mathlib.Nat.{mul-zero, mul-suc, add_comm, pow-suc}
use native.Mathlib.Omega.{arith}
use lib.Dec.{lit<}
use lib.ListN.{length, get_or, take, drop, length-append, length-drop, take-append-drop}
use lib.Seq.{length-take-le, take_at, drop_at, take-add, drop-drop, get_or-drop}
use borrow.Author.Tests.{lt-ltb, le-ltb}
use Rattle.wire.specs.facts.Bytes.{number_of, bytes_of, in_bytes, held, word_size, number_size, words_in, numbers_in}
use Rattle.wire.specs.answers.Put.{with_words}

pub bytes_length : (k n : ℕ) → length (bytes_of k n) ≡ k
unfolding bytes_of
bytes_length zero n = refl
bytes_length (suc k) n = ap suc (bytes_length k (n / 256))

pub in_length : (size : ℕ) (ns : List ℕ) → length (in_bytes size ns) ≡ size * length ns
unfolding in_bytes
in_length size [] = sym (mul-zero size)
in_length size (n ∷ ns) =
    length-append (bytes_of size n) (in_bytes size ns)
    ∙ rw (bytes_length size n, in_length size ns, mul-suc size (length ns)) (add_comm size (size * length ns))

pub in_append : (size : ℕ) (xs ys : List ℕ) → in_bytes size (xs ++ ys) ≡ in_bytes size xs ++ in_bytes size ys
unfolding in_bytes
in_append size [] ys = refl
in_append size (x ∷ xs) ys =
    ap (λ (l : List ℕ). bytes_of size x ++ l) (in_append size xs ys) ∙ sym (append_assoc (bytes_of size x) (in_bytes size xs) (in_bytes size ys))

pub held_length : (size count : ℕ) (bytes : List ℕ) → length (held size count bytes) ≡ count
unfolding held
held_length size zero bytes = refl
held_length size (suc k) bytes = ap suc (held_length size k (drop size bytes))

-- the bytes of a number that they can write
number_back : (k n : ℕ) → n < 256 ^ k → number_of (bytes_of k n) ≡ n
unfolding bytes_of number_of
number_back zero n lt = omega arith
number_back (suc k) n lt =
    let below = rw (pow-suc 256 k) at lt in
    rw (number_back k (n / 256) (omega (arith, below))) (omega arith)

-- the number of bytes
bytes_back : (bytes : List ℕ) → ((i : ℕ) → get_or bytes i 0 < 256) → bytes_of (length bytes) (number_of bytes) ≡ bytes
unfolding bytes_of number_of
bytes_back [] small = refl
bytes_back (b ∷ bs) small =
    let low : (b + 256 * number_of bs) % 256 ≡ b = omega (arith, small 0) in
    let rest : (b + 256 * number_of bs) / 256 ≡ number_of bs = omega (arith, small 0) in
    rw (low, rest) (ap (λ (l : List ℕ). b ∷ l) (bytes_back bs (λ i. small (suc i))))

-- numbers written, and then read
held_front :
    (size : ℕ) (ns rest : List ℕ) (more : ℕ) →
    ((i : ℕ) → get_or ns i 0 < 256 ^ size) →
    held size (length ns + more) (in_bytes size ns ++ rest) ≡ ns ++ held size more rest
unfolding in_bytes held
held_front size [] rest more small = let e : 0 + more ≡ more = omega arith in ap (λ (n : ℕ). held size n rest) e
held_front size (n ∷ ns) rest more small =
    let e : suc (length ns) + more ≡ suc (length ns + more) = omega arith in
    let first = bytes_of size n in
    let behind = in_bytes size ns ++ rest in
    let whole = append_assoc first (in_bytes size ns) rest in
    ap (λ (count : ℕ). held size count ((first ++ in_bytes size ns) ++ rest)) e
    ∙ ap (held size (suc (length ns + more))) whole
    ∙ ap₂ (λ (x : ℕ) (l : List ℕ). x ∷ l)
    (ap number_of (take_at first behind size (bytes_length size n)) ∙ number_back size n (small 0))
    (ap (held size (length ns + more)) (drop_at first behind size (bytes_length size n)) ∙ held_front size ns rest more (λ i. small (suc i)))

-- numbers passed over
held_drop : (size n more : ℕ) (bytes : List ℕ) → drop n (held size (n + more) bytes) ≡ held size more (drop (size * n) bytes)
unfolding held
held_drop size zero more bytes =
    let e : 0 + more ≡ more = omega arith in
    rw (e, mul-zero size)
held_drop size (suc n) more bytes =
    let e : suc n + more ≡ suc (n + more) = omega arith in
    rw (e, mul-suc size n, add_comm (size * n) size, ← drop-drop (size * n) size bytes) (held_drop size n more (drop size bytes))

-- bytes of bytes
take_small : (n : ℕ) (bytes : List ℕ) → ((i : ℕ) → get_or bytes i 0 < 256) → (i : ℕ) → get_or (take n bytes) i 0 < 256
take_small zero bytes small i = lit< tt
take_small (suc n) [] small i = lit< tt
take_small (suc n) (b ∷ bs) small zero = small 0
take_small (suc n) (b ∷ bs) small (suc i) = take_small n bs (λ j. small (suc j)) i

drop_small : (n : ℕ) (bytes : List ℕ) → ((i : ℕ) → get_or bytes i 0 < 256) → (i : ℕ) → get_or (drop n bytes) i 0 < 256
drop_small n bytes small i = rw (get_or-drop n bytes i 0) (small (n + i))

-- numbers read, and then written
held_back :
    (size count : ℕ) (bytes : List ℕ) →
    ((i : ℕ) → get_or bytes i 0 < 256) →
    size * count ≤ length bytes →
    in_bytes size (held size count bytes) ≡ take (size * count) bytes
unfolding in_bytes held
held_back size zero bytes small le = rw (mul-zero size)
held_back size (suc k) bytes small le =
    let room = rw (mul-suc size k) at le in
    let long = length-take-le size bytes (omega (arith, room)) in
    rw (mul-suc size k, add_comm (size * k) size, take-add size (size * k) bytes)
    (ap₂ (λ (xs ys : List ℕ). xs ++ ys)
    (ap (λ (n : ℕ). bytes_of n (number_of (take size bytes))) (sym long) ∙ bytes_back (take size bytes) (take_small size bytes small))
    (held_back size k (drop size bytes) (drop_small size bytes small) (rw (length-drop size bytes) (omega (arith, room)))))

pub words_length : (bytes : List ℕ) → length (words_in bytes) ≡ length bytes / 4
words_length bytes = held_length word_size (length bytes / word_size) bytes

pub numbers_length : (bytes : List ℕ) → length (numbers_in bytes) ≡ length bytes / 8
numbers_length bytes = held_length number_size (length bytes / number_size) bytes

-- the words of bytes, and what is left over
pub words_back :
    (bytes : List ℕ) →
    ((i : ℕ) → get_or bytes i 0 < 256) →
    in_bytes word_size (words_in bytes) ++ drop (word_size * (length bytes / word_size)) bytes ≡ bytes
words_back bytes small =
    let whole = word_size * (length bytes / word_size) in
    ap (λ (l : List ℕ). l ++ drop whole bytes) (held_back word_size (length bytes / word_size) bytes small (omega arith)) ∙ take-append-drop whole bytes

-- the words that stay behind others
abbrev left : List ℕ → List ℕ → ℕ
left ws bytes = length bytes / word_size - length ws

module _ (ws bytes : List ℕ) (fits : word_size * length ws ≤ length bytes) where
  split : length bytes / word_size ≡ length ws + left ws bytes
  split = omega arith

  behind : drop (length ws) (words_in bytes) ≡ held word_size (left ws bytes) (drop (word_size * length ws) bytes)
  behind = ap (λ (n : ℕ). drop (length ws) (held word_size n bytes)) split ∙ held_drop word_size (length ws) (left ws bytes) bytes

  -- the bytes behind the words, whole words and the rest
  rest_back :
      ((i : ℕ) → get_or bytes i 0 < 256) →
      in_bytes word_size (drop (length ws) (words_in bytes)) ++ drop (word_size * (length bytes / word_size)) bytes ≡ drop (word_size * length ws) bytes
  rest_back small =
      let start = word_size * length ws in
      let rest = drop start bytes in
      let whole = word_size * left ws bytes in
      let room : whole ≤ length rest = rw (length-drop start bytes) (omega arith) in
      let end : word_size * (length bytes / word_size) ≡ start + whole = omega arith in
      ap₂ (λ (xs ys : List ℕ). xs ++ ys)
      (ap (in_bytes word_size) behind ∙ held_back word_size (left ws bytes) rest (drop_small start bytes small) room)
      (ap (λ (n : ℕ). drop n bytes) end ∙ sym (drop-drop whole start bytes))
      ∙ take-append-drop whole rest

  laid_length : length (in_bytes word_size ws ++ drop (word_size * length ws) bytes) ≡ length bytes
  laid_length =
      length-append (in_bytes word_size ws) (drop (word_size * length ws) bytes)
      ∙ rw (in_length word_size ws, length-drop (word_size * length ws) bytes) (omega arith)

-- words in place of the first that bytes hold, written
pub words_laid :
    (ws bytes : List ℕ) →
    ((i : ℕ) → get_or bytes i 0 < 256) →
    word_size * length ws ≤ length bytes →
    in_bytes word_size (ws ++ drop (length ws) (words_in bytes)) ++ drop (word_size * (length bytes / word_size)) bytes
    ≡ in_bytes word_size ws ++ drop (word_size * length ws) bytes
words_laid ws bytes small fits =
    let over = drop (word_size * (length bytes / word_size)) bytes in
    let kept = drop (length ws) (words_in bytes) in
    ap (λ (l : List ℕ). l ++ over) (in_append word_size ws kept)
    ∙ append_assoc (in_bytes word_size ws) (in_bytes word_size kept) over
    ∙ ap (λ (l : List ℕ). in_bytes word_size ws ++ l) (rest_back ws bytes fits small)

-- .. and read
pub words_read :
    (ws bytes : List ℕ) →
    ((i : ℕ) → get_or ws i 0 < 2 ^ 32) →
    word_size * length ws ≤ length bytes →
    words_in (in_bytes word_size ws ++ drop (word_size * length ws) bytes) ≡ ws ++ drop (length ws) (words_in bytes)
words_read ws bytes small fits =
    let rest = drop (word_size * length ws) bytes in
    let laid = in_bytes word_size ws ++ rest in
    let count : length laid / word_size ≡ length ws + left ws bytes = ap (λ (n : ℕ). n / word_size) (laid_length ws bytes fits) ∙ split ws bytes fits in
    ap (λ (n : ℕ). held word_size n laid) count
    ∙ held_front word_size ws rest (left ws bytes) small
    ∙ ap (λ (l : List ℕ). ws ++ l) (sym (behind ws bytes fits))

pub with_words_lem :
    (ws bytes : List ℕ) → word_size * length ws ≤ length bytes → with_words ws bytes ≡ in_bytes word_size ws ++ drop (word_size * length ws) bytes
unfolding with_words
with_words_lem ws bytes fits = rw (le-ltb (length bytes) (word_size * length ws) fits)

pub without_words : (ws bytes : List ℕ) → length bytes < word_size * length ws → bytes ≡ with_words ws bytes
unfolding with_words
without_words ws bytes short = rw (lt-ltb (length bytes) (word_size * length ws) short)
