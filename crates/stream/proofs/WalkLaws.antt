-- SPDX-License-Identifier: BSD-2-Clause OR GPL-2.0-or-later
-- The walk goes forward, and what it has left to do gives what it all gives. Assumes nothing.
use Rattle.std.specs.Prelude.{Err, Ok, Result}
use mathlib.Core.Path.{◌≡◌, refl, sym, ◌∙◌, subst}
use mathlib.Core.Bool.{cond}
use mathlib.Core.List.{List}
use Prim.Native.Nat.{ℕ, zero, suc, ◌+◌, ◌-◌, ◌^◌, ◌≤◌, ◌<◌}
use native.Mathlib.Omega.{arith}
use lib.Dec.{ltb, leb, eqb}
use lib.ListN.{length}
use borrow.Author.Tests.{lt-ltb, le-ltb, ltb-true, ltb-false, leb-true}
use Rattle.laws.proofs.TestLaws.{cond_both}
use Rattle.tables.specs.facts.Property.{cell_at}
use Rattle.tables.specs.facts.Binding.{cpus_word}
use Rattle.tables.specs.answers.Range.{range_is}
use Rattle.tokens.specs.declared.TokenRead.{TokenRead}
use Rattle.tokens.specs.declared.TokenRead.TheVariants.{Begin, Close, Property, Nop, End, Unsound}
use Rattle.tokens.specs.facts.Token.{aligned}
use Rattle.tokens.specs.answers.Read.{zero_from, begin_read, property_read, token_read}
use Rattle.tokens.proofs.ZeroLaws.{zero_not_before}
use Rattle.stream.specs.declared.Walk.{Walk}
use Rattle.stream.specs.declared.Next.{Next}
use Rattle.stream.specs.declared.Next.TheVariants.{On, Ends, Breaks}
use Rattle.stream.specs.answers.Walk.{walk_start, cpus_mark, begun_root, begun_in, begun, closed, owned, passed, root_step, step_of, onward}
use Rattle.stream.specs.answers.Walk.{walk_from, walk, Small, Bounded}

-- a mark is 0 or 1
pub mark_le : (block : List ℕ) (name len : ℕ) → cpus_mark block name len ≤ 1
unfolding cpus_mark
mark_le block name len = cond_both (λ (n : ℕ). n ≤ 1) (range_is block name len cpus_word) 1 0 (λ e. omega arith) (λ e. omega arith)

-- of what breaks the walk nothing is to be shown
fine : 0 ≤ 0
fine = omega arith

-- the token that is read at a place ends at most at 2 ^ 63, and the next one stands at most there
abbrev Ahead : ℕ → TokenRead → Type 0
Ahead at (Begin len next) = (at + 4 < next) × (next ≤ 2 ^ 63)
Ahead at Close = at + 4 ≤ 2 ^ 63
Ahead at (Property name size next) = (at + 4 < next) × (next ≤ 2 ^ 63)
Ahead at Nop = at + 4 ≤ 2 ^ 63
Ahead at End = at + 4 ≤ 2 ^ 63
Ahead at Unsound = 0 ≤ 0

module _ (block : List ℕ) (named at : ℕ) (le : length block ≤ 2 ^ 63) where
  begin_ahead : Ahead at (begin_read block at)
  unfolding begin_read
  begin_ahead =
      let stop = zero_from block (at + 4) in
      let low = zero_not_before block (at + 4) in
      cond_both (Ahead at) (ltb stop (length block)) (Begin (stop - (at + 4)) (aligned (stop + 1))) Unsound
      (λ e. let high = ltb-true stop (length block) e in (omega arith, omega arith))
      (λ e. fine)

  property_ahead : Ahead at (property_read block named at)
  unfolding property_read
  property_ahead =
      let size = cell_at block (at + 4) in
      let name = cell_at block (at + 8) in
      let found = Property name size (aligned (at + 12 + size)) in
      cond_both (Ahead at) (ltb (length block) (at + 12 + size)) Unsound (cond (ltb name named) found Unsound) (λ e. fine) λ e.
      let high = ltb-false (length block) (at + 12 + size) e in
      cond_both (Ahead at) (ltb name named) found Unsound (λ f. (omega arith, omega arith)) (λ f. fine)

  token_ahead : Ahead at (token_read block named at)
  unfolding token_read
  token_ahead =
      let cell = cell_at block at in
      let high = cond (eqb cell 4) Nop (cond (eqb cell 9) End Unsound) in
      let low = cond (eqb cell 1) (begin_read block at) (cond (eqb cell 2) Close Unsound) in
      let other = cond (ltb cell 3) low high in
      cond_both (Ahead at) (leb (at + 4) (length block)) (cond (eqb cell 3) (property_read block named at) other) Unsound
      (λ e.
      let room = leb-true (at + 4) (length block) e in
      let near : at + 4 ≤ 2 ^ 63 = omega arith in
      cond_both (Ahead at) (eqb cell 3) (property_read block named at) other (λ f. property_ahead) λ f.
      cond_both (Ahead at) (ltb cell 3) low high
      (λ f.
      cond_both (Ahead at) (eqb cell 1) (begin_read block at) (cond (eqb cell 2) Close Unsound) (λ g. begin_ahead) λ g.
      cond_both (Ahead at) (eqb cell 2) Close Unsound (λ h. near) (λ h. fine))
      λ f.
      cond_both (Ahead at) (eqb cell 4) Nop (cond (eqb cell 9) End Unsound) (λ g. near) λ g.
      cond_both (Ahead at) (eqb cell 9) End Unsound (λ h. near) (λ h. fine))
      (λ e. fine)

-- the walk is further on, or ends where it stands, with small numbers, or breaks in the block
abbrev Onto : ℕ → ℕ → Next → Type 0
Onto end at (On v) = Small v × (at < v.at)
Onto end at (Ends v) = Small v × (v.at ≡ at)
Onto end at (Breaks p) = at < end → p ≤ end

module _ (block : List ℕ) (w : Walk) (s : Small w) where
  -- the numbers grow less than the place does
  moved :
      (v : Walk) →
      w.at + 4 ≤ v.at →
      v.at ≤ 2 ^ 63 →
      v.depth ≤ w.depth + 2 →
      v.inside ≤ 1 →
      v.cpus ≤ w.cpus + 1 →
      v.first ≤ w.at →
      v.nodes ≤ w.nodes + 1 →
      v.props ≤ w.props + 1 →
      Onto (length block) w.at (On v)
  moved v far le depth inside cpus first nodes props = (
    record {
      at = le;
      depth = omega arith;
      inside = inside;
      cpus = omega arith;
      first = omega arith;
      nodes = omega arith;
      props = omega arith;
    },
    omega arith,
  )

  begun_onto : (len next : ℕ) → w.at + 4 < next → next ≤ 2 ^ 63 → Onto (length block) w.at (On (begun block w len next))
  unfolding begun
  begun_onto len next lt le =
      let mark = cpus_mark block (w.at + 4) len in
      let m = mark_le block (w.at + 4) len in
      cond_both (λ (v : Walk). Onto (length block) w.at (On v)) (eqb w.depth 1) (begun_root block w len next) (begun_in w next)
      (λ e.
      moved (begun_root block w len next) (omega arith) le (omega arith) m (omega arith)
      (cond_both (λ (k : ℕ). k ≤ w.at) (eqb mark 1) w.at w.first (λ f. omega arith) (λ f. s.first))
      (omega arith) (omega arith))
      (λ e. moved (begun_in w next) (omega arith) le (omega arith) s.inside (omega arith) s.first (omega arith) (omega arith))

  step_onto : (t : TokenRead) → Ahead w.at t → Onto (length block) w.at (step_of block w t)
  step_onto (Begin len next) h =
      let on = On (begun block w len next) in
      let to = begun_onto len next h.0 h.1 in
      cond_both (Onto (length block) w.at) (eqb w.depth 0) (root_step block w len next) on
      (λ e. cond_both (Onto (length block) w.at) w.fresh on (Breaks w.at) (λ f. to) (λ f lt. omega arith))
      (λ e. to)
  step_onto Close h =
      cond_both (Onto (length block) w.at) (eqb w.depth 0) (Breaks w.at) (On (closed w)) (λ e lt. omega arith)
      (λ e. moved (closed w) (omega arith) h (omega arith) s.inside (omega arith) s.first (omega arith) (omega arith))
  step_onto (Property name size next) h =
      let no = Breaks w.at in
      let on = On (owned w next) in
      cond_both (Onto (length block) w.at) (eqb w.depth 0) no (cond w.fresh on no) (λ e lt. omega arith) λ e.
      cond_both (Onto (length block) w.at) w.fresh on no
      (λ f. moved (owned w next) (omega (arith, h.0)) h.1 (omega arith) s.inside (omega arith) s.first (omega arith) (omega arith))
      (λ f lt. omega arith)
  step_onto Nop h = moved (passed w) (omega arith) h (omega arith) s.inside (omega arith) s.first (omega arith) (omega arith)
  step_onto End h =
      let no = Breaks w.at in
      let behind = w.at + 4 in
      let last = cond (ltb behind (length block)) (Breaks behind) (Ends w) in
      cond_both (Onto (length block) w.at) (eqb w.depth 0) (cond w.fresh no last) no
      (λ e. cond_both (Onto (length block) w.at) w.fresh no last (λ f lt. omega arith) λ f.
      cond_both (Onto (length block) w.at) (ltb behind (length block)) (Breaks behind) (Ends w)
      (λ g lt. omega (arith, ltb-true behind (length block) g)) (λ g. (s, refl)))
      (λ e lt. omega arith)
  step_onto Unsound h = λ lt. omega arith

-- What the whole walk gives is what the rest of it gives, with tokens enough. A walk that stands behind the block's end takes no step.
pub record Walked (block : List ℕ) (named : ℕ) (whole : Result Walk ℕ) (w : Walk) : Type 0 where
  pub small : w.at < length block → Small w
  pub left : ℕ
  pub enough : length block - w.at ≤ left
  pub same : whole ≡ walk_from block named left w

-- what follows from a token at a place: the walk goes on further, or what it gives is known
abbrev pub Stepped : List ℕ → ℕ → Result Walk ℕ → ℕ → Next → Type 0
Stepped block named whole at (On v) = Walked block named whole v × (at < v.at)
Stepped block named whole at (Ends v) = (Ok v ≡ whole) × Bounded (length block) (Ok v)
Stepped block named whole at (Breaks p) = (Err p ≡ whole) × Bounded (length block) (Err p)

module _ (block : List ℕ) (named : ℕ) (le : length block ≤ 2 ^ 63) where
  pub walked_start : (start : ℕ) → Walked block named (walk block named start) (walk_start start)
  walked_start start =
      record {
        small = λ lt.
            record {
              at = omega arith;
              depth = omega arith;
              inside = omega arith;
              cpus = omega arith;
              first = omega arith;
              nodes = omega arith;
              props = omega arith;
            };
        left = length block - start;
        enough = omega arith;
        same = refl;
      }

  module _ {whole : Result Walk ℕ} {w : Walk} (h : Walked block named whole w) where
    pub walked_step : w.at < length block → (n : Next) → n ≡ step_of block w (token_read block named w.at) → Stepped block named whole w.at n
    unfolding walk_from
    walked_step lt n is = go h.left h.enough h.same
      where
        onto : Onto (length block) w.at n
        onto =
            subst (Onto (length block) w.at) (sym is)
            (step_onto block w (h.small lt) (token_read block named w.at) (token_ahead block named w.at le))

        rest :
            (k : ℕ) (m : Next) →
            length block - w.at ≤ suc k →
            Onto (length block) w.at m →
            onward m (walk_from block named k) ≡ whole →
            Stepped block named whole w.at m
        rest k (On v) enough on same = (record { small = λ _. on.0; left = k; enough = omega (arith, on.1); same = sym same }, on.1)
        rest k (Ends v) enough on same = (same, (on.0, omega (arith, on.1)))
        rest k (Breaks p) enough on same = (same, on lt)

        go : (left : ℕ) → length block - w.at ≤ left → whole ≡ walk_from block named left w → Stepped block named whole w.at n
        go zero enough same = absurd (omega arith)
        go (suc k) enough same = rest k n enough onto (sym (same ∙ rw (lt-ltb w.at (length block) lt, is)))

    -- no token left
    pub walked_end : length block ≤ w.at → Err (length block) ≡ whole
    unfolding walk_from
    walked_end past = sym (h.same ∙ go h.left)
      where
        go : (k : ℕ) → walk_from block named k w ≡ Err (length block)
        go zero = refl
        go (suc k) = rw (le-ltb w.at (length block) past)
