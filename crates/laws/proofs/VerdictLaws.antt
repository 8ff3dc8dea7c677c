-- SPDX-License-Identifier: BSD-2-Clause OR GPL-2.0-or-later
-- The number told of one rule, and a stage of one rule. Assumes nothing.
use mathlib.Core.Path.{◌≡◌, refl}
use mathlib.Core.Bool.{Bool, cond}
use Prim.Native.Nat.{ℕ, zero, suc, ◌<◌}
use native.Mathlib.Omega.{arith}
use Rattle.laws.specs.answers.Fault.{told, first_fault}
use Rattle.laws.proofs.DecideLaws.{Decides}
use Rattle.laws.proofs.TestedLaws.{Decided, decide_cases}
use Rattle.laws.proofs.FirstLaws.{Tells, Smallest, Stage, stage_tells}

-- the number told of rule n at a place: 0 where P holds, and n where the rule is broken
pub data Verdict (R : ℕ → ℕ → Type 0) (n p : ℕ) (P : Type 0) : ℕ → Type 0 where
  sound : P → Verdict R n p P 0
  broken : R n p → Verdict R n p P n

-- the number told where a fact fails
pub unless : {R : ℕ → ℕ → Type 0} {n p : ℕ} {P : Type 0} {t : Bool} → Decides t P → ((P → ⊥) → R n p) → Verdict R n p P (cond t 0 n)
unless {R} {n} {p} {P} h breaks = go (decide_cases h)
  where
    go : {s : Bool} → Decided P s → Verdict R n p P (cond s 0 n)
    go (Decided.holds x) = Verdict.sound x
    go (Decided.fails x) = Verdict.broken (breaks x)

-- what holds where the rule is not broken
pub held : {R : ℕ → ℕ → Type 0} {n p v : ℕ} {P : Type 0} → Verdict R n p P v → (R n p → ⊥) → P
held (Verdict.sound p) none = p
held (Verdict.broken r) none = absurd (none r)

-- .. and what the number told says
pub verdict_sound : {R : ℕ → ℕ → Type 0} {n p v : ℕ} {P : Type 0} → Verdict R (suc n) p P v → v ≡ 0 → P
verdict_sound (Verdict.sound h) e = h
verdict_sound (Verdict.broken r) e = absurd (omega arith)

pub verdict_broken : {R : ℕ → ℕ → Type 0} {n p v : ℕ} {P : Type 0} → Verdict R n p P v → (v ≡ 0 → ⊥) → R n p
verdict_broken (Verdict.sound h) ne = absurd (ne refl)
verdict_broken (Verdict.broken r) ne = r

module _ (stage : ℕ → ℕ) (R : ℕ → ℕ → Type 0) (n : ℕ) (pos : 0 < n) where
  -- a stage of one rule ..
  pub number_stage :
      (P : ℕ → Type 0) {count : ℕ} {f : ℕ → ℕ} →
      ((m q : ℕ) → R m q → stage m ≡ stage n → (m ≡ n) × (q < count) × (P q → ⊥)) →
      ((q : ℕ) → q < count → ((k : ℕ) → k < q → f k ≡ 0) → Verdict R n q (P q) (f q)) →
      Stage stage R (stage n) count f
  number_stage P only verdict = record { inside = λ m q r e. (only m q r e).1; smallest = λ q lt clean. smallest (verdict q lt clean) }
    where
      smallest : {q v : ℕ} → Verdict R n q (P q) v → Smallest stage R (stage n) q v
      smallest {q} (Verdict.sound p) = record { sound = λ ne. absurd (ne refl); least = λ m r e. absurd ((only m q r e).2 p) }
      smallest {q} (Verdict.broken r) = record { sound = λ _. (r, refl); least = λ m x e. let t = (only m q x e).0 in (λ z. omega arith, omega arith) }

  -- .. that is told of place 0 alone
  pub once_tells :
      {v : ℕ} {P : Type 0} →
      ((m q : ℕ) → R m q → stage m ≡ stage n → (m ≡ n) × (q ≡ 0) × (P → ⊥)) →
      Verdict R n 0 P v →
      Tells stage R (stage n) (suc (stage n)) (told v 0)
  unfolding first_fault
  once_tells {v} {P} only verdict =
      stage_tells stage R (stage n) 1 (λ _. v)
      (number_stage (λ _. P) (λ m q r e. let t = only m q r e in (t.0, omega (arith, t.1), t.2)) (λ q lt _. at q lt))
    where
      at : (q : ℕ) → q < 1 → Verdict R n q P v
      at zero lt = verdict
      at (suc q) lt = absurd (omega arith)
