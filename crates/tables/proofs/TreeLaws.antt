-- SPDX-License-Identifier: BSD-2-Clause OR GPL-2.0-or-later
-- Values by recursion on the parent, and the ancestor test, which decides the relation. Assumes nothing.
use Rattle.std.specs.Prelude.{None, Some}
use mathlib.Core.Path.{◌≡◌, refl, sym, ap, ◌∙◌}
use mathlib.Core.Bool.{Bool, true, false, cond}
use mathlib.Core.List.{List}
use Prim.Native.Nat.{ℕ, zero, suc, ◌≤◌, ◌<◌}
use native.Mathlib.Nat.{le_refl}
use native.Mathlib.Omega.{arith}
use Rattle.tables.specs.facts.Board.{node_count, parent_word}
use lib.Dec.{ltb, eqb}
use borrow.Author.Tests.{lt-ltb, le-ltb, ltb-true, eq-eqb, eqb-true}
use Rattle.tables.specs.answers.Tree.{has_parent, climb_in, climb, below_step, parent_of, is_below}
use Rattle.tables.specs.facts.Tree.{Child, Ancestor}

module _ (nodes : List ℕ) where
  -- when a record has a parent
  pub has : (i : ℕ) → i < node_count nodes → parent_word nodes i < i → has_parent nodes i ≡ true
  unfolding has_parent
  has i inside earlier = rw (lt-ltb _ _ inside, lt-ltb _ _ earlier)

  pub has_outside : (i : ℕ) → node_count nodes ≤ i → has_parent nodes i ≡ false
  unfolding has_parent
  has_outside i h = rw (le-ltb _ _ h)

  pub has_late : (i : ℕ) → i ≤ parent_word nodes i → has_parent nodes i ≡ false
  unfolding has_parent
  has_late i h = rw (le-ltb _ _ h) (same (ltb i (node_count nodes)))
    where
      same : (b : Bool) → cond b false false ≡ false
      same true = refl
      same false = refl

  -- the record that a `has_parent` shows
  pub the_parent : (i : ℕ) → has_parent nodes i ≡ true → Child nodes (parent_word nodes i) i
  unfolding has_parent
  the_parent i h = go (ltb i (node_count nodes)) refl h
    where
      go : (b : Bool) → ltb i (node_count nodes) ≡ b → cond b (ltb (parent_word nodes i) i) false ≡ true → Child nodes (parent_word nodes i) i
      go true p q = record { inside = ltb-true _ _ p; word = refl; earlier = ltb-true _ _ q }
      go false p q = let z : ◌≡◌ {A = ℕ} 0 1 = cc in absurd (omega arith)

  -- what an answer of `parent_of` shows
  pub parent_is : (i p : ℕ) → parent_of nodes i ≡ Some p → (has_parent nodes i ≡ true) × (parent_word nodes i ≡ p) × (p < i)
  unfolding parent_of
  parent_is i p h = go (has_parent nodes i) refl h
    where
      go :
          (b : Bool) →
          has_parent nodes i ≡ b →
          cond b (Some (parent_word nodes i)) None ≡ Some p →
          (has_parent nodes i ≡ true) × (parent_word nodes i ≡ p) × (p < i)
      go true e g = let w : parent_word nodes i ≡ p = cc in (e, w, rw w at (the_parent i e).earlier)
      go false e g = let z : ◌≡◌ {A = ℕ} 0 1 = cc in absurd (omega arith)

  pub parent_top : (i : ℕ) → parent_of nodes i ≡ None → has_parent nodes i ≡ false
  unfolding parent_of
  parent_top i h = go (has_parent nodes i) refl h
    where
      go : (b : Bool) → has_parent nodes i ≡ b → cond b (Some (parent_word nodes i)) None ≡ None → has_parent nodes i ≡ false
      go true e g = let z : ◌≡◌ {A = ℕ} 0 1 = cc in absurd (omega arith)
      go false e g = e

  module _ {A : Type 0} (top : A) (step : ℕ → A → A) where
    -- any count of steps that is at least i is enough for i
    enough : (k m i : ℕ) → i ≤ k → i ≤ m → climb_in nodes top step k i ≡ climb_in nodes top step m i
    unfolding climb_in
    enough zero zero i hk hm = refl
    enough zero (suc m) i hk hm = rw (has_late i (omega arith))
    enough (suc k) zero i hk hm = rw (has_late i (omega arith))
    enough (suc k) (suc m) i hk hm = go (has_parent nodes i) refl (λ l. enough k m (parent_word nodes i) (omega arith) (omega arith))
      where
        go :
            (b : Bool) →
            has_parent nodes i ≡ b →
            (parent_word nodes i < i → climb_in nodes top step k (parent_word nodes i) ≡ climb_in nodes top step m (parent_word nodes i)) →
            cond b (step i (climb_in nodes top step k (parent_word nodes i))) top ≡ cond b (step i (climb_in nodes top step m (parent_word nodes i))) top
        go true p ih = rw (ih (the_parent i p).earlier)
        go false p ih = refl

    -- a record's value, by its parent's
    pub climb_parent : (i : ℕ) → has_parent nodes i ≡ true → step i (climb nodes top step (parent_word nodes i)) ≡ climb nodes top step i
    unfolding climb climb_in
    climb_parent zero h = let l = (the_parent zero h).earlier in absurd (omega arith)
    climb_parent (suc i) h = let l = (the_parent (suc i) h).earlier in rw h (ap (step (suc i)) (enough _ i _ (le_refl _) (omega arith)))

    pub climb_none : (i : ℕ) → has_parent nodes i ≡ false → top ≡ climb nodes top step i
    unfolding climb climb_in
    climb_none zero h = refl
    climb_none (suc i) h = rw h

    -- a property that holds of `top`, and that each step carries from a record's parent to the record
    pub climb_keeps :
        (P : ℕ → A → Type 0) →
        ((i : ℕ) → P i top) →
        ((i : ℕ) (a : A) → has_parent nodes i ≡ true → P (parent_word nodes i) a → P i (step i a)) →
        (i : ℕ) →
        P i (climb nodes top step i)
    unfolding climb climb_in
    climb_keeps P start more i = go i i
      where
        pick : (b : Bool) (i : ℕ) (a : A) → has_parent nodes i ≡ b → P (parent_word nodes i) a → P i (cond b (step i a) top)
        pick true i a p h = more i a p h
        pick false i a p h = start i

        go : (k i : ℕ) → P i (climb_in nodes top step k i)
        go zero i = start i
        go (suc k) i = pick (has_parent nodes i) i _ refl (go k (parent_word nodes i))

  -- the ancestor test
  pub below_parent :
      (a i : ℕ) → has_parent nodes i ≡ true → eqb (parent_word nodes i) a ≡ false → is_below nodes (parent_word nodes i) a ≡ is_below nodes i a
  unfolding is_below
  below_parent a i h e = rw e at (climb_parent false (below_step nodes a) i h)

  pub below_none : (a i : ℕ) → has_parent nodes i ≡ false → false ≡ is_below nodes i a
  unfolding is_below
  below_none a i h = climb_none false (below_step nodes a) i h

  pub below_here : (a i : ℕ) → has_parent nodes i ≡ true → parent_word nodes i ≡ a → true ≡ is_below nodes i a
  unfolding is_below
  below_here a i h e = rw (eq-eqb (parent_word nodes i) a e) at (climb_parent false (below_step nodes a) i h)

  has_of : {p i : ℕ} → Child nodes p i → has_parent nodes i ≡ true
  has_of {p} {i} h = has i h.inside (rw h.word h.earlier)

  -- the test says yes of every ancestor ..
  pub ancestor_below : {a i : ℕ} → Ancestor nodes a i → is_below nodes i a ≡ true
  ancestor_below {a} {i} (Ancestor.parent p) = sym (below_here a i (has_of p) p.word)
  ancestor_below {a} {i} (Ancestor.above {p = p} h t) = go (eqb (parent_word nodes i) a) refl (ancestor_below t)
    where
      go : (b : Bool) → eqb (parent_word nodes i) a ≡ b → is_below nodes p a ≡ true → is_below nodes i a ≡ true
      go true e ih = sym (below_here a i (has_of h) (eqb-true _ _ e))
      go false e ih = sym (below_parent a i (has_of h) e) ∙ rw h.word ih

  -- .. and of nothing else
  pub below_ancestor : (a i : ℕ) → is_below nodes i a ≡ true → Ancestor nodes a i
  unfolding is_below
  below_ancestor a i =
      climb_keeps false (below_step nodes a) (λ j b. b ≡ true → Ancestor nodes a j) (λ j h. let z : ◌≡◌ {A = ℕ} 0 1 = cc in absurd (omega arith))
      (λ j b p ih. go j b p ih (eqb (parent_word nodes j) a) refl) i
    where
      go :
          (j : ℕ) (b : Bool) →
          has_parent nodes j ≡ true →
          (b ≡ true → Ancestor nodes a (parent_word nodes j)) →
          (d : Bool) →
          eqb (parent_word nodes j) a ≡ d →
          cond d true b ≡ true →
          Ancestor nodes a j
      go j b p ih true e g = Ancestor.parent (rw (eqb-true (parent_word nodes j) a e) at (the_parent j p))
      go j b p ih false e g = Ancestor.above (the_parent j p) (ih g)
