-- SPDX-License-Identifier: BSD-2-Clause OR GPL-2.0-or-later
-- Words written at the start of an answer, one after the other. Assumes nothing.
use mathlib.Core.Path.{◌≡◌, sym, ap, ◌∙◌}
use mathlib.Core.List.{List, ◌++◌}
use Prim.Native.Nat.{ℕ, suc, ◌+◌, ◌<◌}
use native.Mathlib.Numerals.{add-one}
use native.Mathlib.Omega.{arith}
use lib.ListN.{length, get_or, set, take, drop}
use lib.Seq.{length-take-le, take-suc, drop-cons, set_at, append_snoc}

pub front_next :
    (words before : List ℕ) (i : ℕ) →
    i < length words →
    i < length before →
    set (take i words ++ drop i before) i (get_or words i 0) ≡ take (i + 1) words ++ drop (i + 1) before
front_next words before i lt room =
    let word = get_or words i 0 in
    let rest = drop (suc i) before in
    ap (λ (z : List ℕ). set (take i words ++ z) i word) (drop-cons before i 0 room)
    ∙ set_at (take i words) (get_or before i 0) rest word i (length-take-le i words (omega arith))
    ∙ sym (append_snoc (take i words) word rest)
    ∙ ap (λ (z : List ℕ). z ++ rest) (sym (take-suc words i 0 lt))
    ∙ ap (λ (k : ℕ). take k words ++ drop k before) (sym (add-one i))
