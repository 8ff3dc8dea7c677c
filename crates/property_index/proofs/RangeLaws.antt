-- SPDX-License-Identifier: BSD-2-Clause OR GPL-2.0-or-later
-- A name in the pool, tested by ranges or cells that cover it. Assumes nothing.
use mathlib.Core.Path.{◌≡◌, refl, sym, ap, ap₂, ◌∙◌}
use mathlib.Core.Bool.{Bool, true, false, cond}
use mathlib.Core.List.{List, ◌++◌}
use Prim.Native.Nat.{ℕ, ◌+◌, ◌^◌, ◌≤◌, ◌<◌}
use native.Mathlib.Nat.{add_comm}
use native.Mathlib.Omega.{arith}
use lib.Dec.{eqb, leb}
use lib.ListN.{length, get_or, take, drop, take-append-drop, length-drop}
use lib.Seq.{take-take, take-add, drop-drop, drop_at, length-take-le}
use borrow.Author.Tests.{leb-true}
use Rattle.laws.proofs.DecideLaws.{Decides, both_decides, decides_not}
use Rattle.tables.specs.answers.Range.{range_is}
use Rattle.tables.specs.facts.Property.{cell_bytes}
use Rattle.tables.specs.facts.Property.{cell_at}
use Rattle.tables.proofs.CellLaws.{cell_is}
use Rattle.tables.proofs.DecideLaws.{range_decides}

-- two tests of one fact are equal
pub same_test : {s t : Bool} {P Q : Type 0} → Decides s P → Decides t Q → (P → Q) → (Q → P) → s ≡ t
same_test {s} {t} {P} {Q} g h to from = go s refl
  where
    go : (r : Bool) → s ≡ r → s ≡ t
    go true e = e ∙ sym (h.1 (to (g.0 e)))
    go false e = e ∙ sym ((decides_not h).1 (λ q. (decides_not g).0 e (from q)))

-- the front and the end of a list, which may overlap, are those of a name
module _ (list name : List ℕ) (m n s : ℕ) (meet : s ≤ m) (size : length name ≡ n + s) where
  joined : take m list ≡ take m name → take n (drop s list) ≡ drop s name → take (n + s) list ≡ name
  joined front end =
      let first : take s list ≡ take s name = sym (take-take s m list meet) ∙ ap (take s) front ∙ take-take s m name meet in
      ap (λ (k : ℕ). take k list) (add_comm n s) ∙ take-add s n list ∙ ap₂ (λ (a b : List ℕ). a ++ b) first end ∙ take-append-drop s name

  parted : m ≤ n + s → s ≤ length list → take (n + s) list ≡ name → (take m list ≡ take m name) × (take n (drop s list) ≡ drop s name)
  parted le fits whole = (
    sym (take-take m (n + s) list le) ∙ ap (take m) whole,
    sym (drop_at (take s list) (take n (drop s list)) s (length-take-le s list fits))
        ∙ ap (drop s) (sym (take-add s n list) ∙ ap (λ (k : ℕ). take k list) (add_comm s n) ∙ whole),
  )

-- a name of n + s bytes is tested by its first m and its last n
pub two_ranges :
    (pool : List ℕ) (offset m n s : ℕ) (name : List ℕ) →
    s ≤ m →
    m ≤ n + s →
    length name ≡ n + s →
    cond (range_is pool offset m (take m name)) (range_is pool (offset + s) n (drop s name)) false ≡ range_is pool offset (n + s) name
two_ranges pool offset m n s name meet le size =
    same_test (both_decides (range_decides pool offset m (take m name)) (range_decides pool (offset + s) n (drop s name)))
    (range_decides pool offset (n + s) name)
    (λ h. (omega (arith, h.1.0), joined rest name m n s meet size h.0.1 (ap (take n) after ∙ h.1.1)))
    (λ h.
    let t = parted rest name m n s meet size le (rw (length-drop offset pool) (omega (arith, h.0))) h.1 in
    ((omega (arith, h.0), t.0), (omega (arith, h.0), ap (take n) (sym after) ∙ t.1)))
  where
    rest : List ℕ
    rest = drop offset pool

    after : drop s rest ≡ drop (offset + s) pool
    after = drop-drop s offset pool

-- .. and one of 4 + s bytes, s ≤ 4, by the cells at its start and at its end
pub two_cells :
    (pool : List ℕ) (offset s a b : ℕ) (name : List ℕ) →
    ((i : ℕ) → get_or pool i 0 < 256) →
    s ≤ 4 →
    a < 2 ^ 32 →
    b < 2 ^ 32 →
    (a ≡ 0 → ⊥) →
    (b ≡ 0 → ⊥) →
    length name ≡ 4 + s →
    take 4 name ≡ cell_bytes a →
    drop s name ≡ cell_bytes b →
    cond (eqb (cell_at pool offset) a) (eqb (cell_at pool (offset + s)) b) false ≡ range_is pool offset (4 + s) name
two_cells pool offset s a b name bytes le la lb na nb size front end =
    ap₂ (λ (x y : Bool). cond x y false)
    (cell_is pool offset a bytes la na ∙ ap (range_is pool offset 4) (sym front))
    (cell_is pool (offset + s) b bytes lb nb ∙ ap (range_is pool (offset + s) 4) (sym end))
    ∙ two_ranges pool offset 4 4 s name le (omega arith) size

-- where a cell is read that is not 0, it lies in the pool
pub cell_inside : (pool : List ℕ) (at w : ℕ) → (w ≡ 0 → ⊥) → cell_at pool at ≡ w → at + 4 ≤ length pool
unfolding cell_at
cell_inside pool at w some = go (leb (at + 4) (length pool)) _ refl
  where
    go : (t : Bool) (n : ℕ) → leb (at + 4) (length pool) ≡ t → cond t n 0 ≡ w → at + 4 ≤ length pool
    go true n e h = leb-true (at + 4) (length pool) e
    go false n e h = absurd (some (sym h))
