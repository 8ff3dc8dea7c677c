-- SPDX-License-Identifier: BSD-2-Clause OR GPL-2.0-or-later
-- What the tokens so far leave open: the state decides how they can go on. Assumes nothing.
use mathlib.Core.Path.{◌≡◌, refl, sym, ◌∙◌, ap, subst}
use mathlib.Core.Logic.{◌↔◌, ◌⊎◌, inl, inr, ⊎_elim}
use mathlib.Core.Bool.{Bool, true, false}
use mathlib.Core.List.{List, [], ◌∷◌, ◌++◌, append-nil, append_assoc}
use Prim.Native.Nat.{ℕ, zero, suc, ◌≤◌}
use native.Mathlib.Omega.{arith}
use lib.ListN.{length, length-append}
use Rattle.tokens.specs.facts.Token.{Token, begin, close, property, nop, finish}
use Rattle.stream.specs.facts.Tree.{Nodes}
use Rattle.stream.specs.facts.Stream.{WholeStream, Begins}
use Rattle.stream.proofs.StreamLaws.{Leads, done, skip, rooted, deeper, up, own, root_leads, nops_lead, leads_tree}

-- the tokens ts leave d nodes open, and f
pub record State (ts : List Token) (d : ℕ) (f : Bool) : Type 0 where
  pub rest : (more : List Token) → Leads 0 true (ts ++ more) ↔ Leads d f more

pub state_start : State [] 0 true
state_start = record { rest = λ more. (λ h. h, λ h. h) }

-- a token that changes (d, f) to (e, g)
pub record Moves (t : Token) (d : ℕ) (f : Bool) (e : ℕ) (g : Bool) : Type 0 where
  pub to : {more : List Token} → Leads d f (t ∷ more) → Leads e g more
  pub from : {more : List Token} → Leads e g more → Leads d f (t ∷ more)

pub state_move : {ts : List Token} {t : Token} {d e : ℕ} {f g : Bool} → State ts d f → Moves t d f e g → State (ts ++ (t ∷ [])) e g
state_move {ts} {t} {d} {e} {f} {g} s m = record { rest = go }
  where
    go : (more : List Token) → Leads 0 true ((ts ++ (t ∷ [])) ++ more) ↔ Leads e g more
    go more =
        let same = append_assoc ts (t ∷ []) more in (
          λ h. m.to ((s.rest (t ∷ more)).0 (subst (Leads 0 true) same h)),
          λ h. subst (Leads 0 true) (sym same) ((s.rest (t ∷ more)).1 (m.from h)),
        )

nop_back : {d : ℕ} {f : Bool} {more : List Token} → Leads d f (nop ∷ more) → Leads d f more
nop_back (skip h) = h

pub nop_moves : {d : ℕ} {f : Bool} → Moves nop d f d f
nop_moves {d} {f} = record { to = nop_back; from = skip }

root_back : {n l : ℕ} {more : List Token} → Leads 0 true (begin n l ∷ more) → Leads 1 true more
root_back (rooted h) = h

pub root_moves : {n l : ℕ} → Moves (begin n l) 0 true 1 true
root_moves {n} {l} = record { to = root_back; from = rooted }

begin_back : {d n l : ℕ} {f : Bool} {more : List Token} → Leads (suc d) f (begin n l ∷ more) → Leads (suc (suc d)) true more
begin_back (deeper h) = h

pub begin_moves : {d n l : ℕ} {f : Bool} → Moves (begin n l) (suc d) f (suc (suc d)) true
begin_moves {d} {n} {l} {f} = record { to = begin_back; from = deeper }

close_back : {d : ℕ} {f : Bool} {more : List Token} → Leads (suc d) f (close ∷ more) → Leads d false more
close_back (up h) = h

pub close_moves : {d : ℕ} {f : Bool} → Moves close (suc d) f d false
close_moves {d} {f} = record { to = close_back; from = up }

own_back : {d n l v s : ℕ} {more : List Token} → Leads (suc d) true (property n l v s ∷ more) → Leads (suc d) true more
own_back (own h) = h

pub own_moves : {d n l v s : ℕ} → Moves (property n l v s) (suc d) true (suc d) true
own_moves {d} {n} {l} {v} {s} = record { to = own_back; from = own }

-- which tokens a state allows
abbrev pub Allowed : Token → ℕ → Bool → Type 0
Allowed nop d f = 0 ≤ 0
Allowed (begin n l) zero true = 0 ≤ 0
Allowed (begin n l) zero false = ⊥
Allowed (begin n l) (suc d) f = 0 ≤ 0
Allowed close zero f = ⊥
Allowed close (suc d) f = 0 ≤ 0
Allowed (property n l v s) zero f = ⊥
Allowed (property n l v s) (suc d) true = 0 ≤ 0
Allowed (property n l v s) (suc d) false = ⊥
Allowed finish d f = ⊥

fine : 0 ≤ 0
fine = omega arith

leads_allowed : {t : Token} {d : ℕ} {f : Bool} {more : List Token} → Leads d f (t ∷ more) → Allowed t d f
leads_allowed (skip h) = fine
leads_allowed (rooted h) = fine
leads_allowed (deeper h) = fine
leads_allowed (up h) = fine
leads_allowed (own h) = fine

-- every state can be brought to the end
closing : (d : ℕ) → (ts : List Token) × Leads d false ts
closing zero = ([], done)
closing (suc d) = let c = closing d in (close ∷ c.0, up c.1)

pub can_end : (d : ℕ) (f : Bool) → (ts : List Token) × Leads d f ts
can_end zero true = (begin 0 0 ∷ close ∷ [], rooted (up done))
can_end zero false = ([], done)
can_end (suc d) f = let c = closing d in (close ∷ c.0, up c.1)

pub leads_whole : (ts : List Token) → Leads 0 true ts → (tree : Nodes) × WholeStream tree (ts ++ (finish ∷ []))
leads_whole ts h = let t = leads_tree h in (t.0, record { one_root = t.1; body = ts; ends = refl; tokens = t.2 })

whole_leads : {tree : Nodes} {ts : List Token} (w : WholeStream tree ts) → Leads 0 true w.body
whole_leads w = nops_lead w.body (subst (Leads 0 true) (sym w.tokens) (root_leads w.one_root))

pub state_begins : {ts : List Token} {d : ℕ} {f : Bool} → State ts d f → Begins ts
state_begins {ts} {d} {f} s =
    let c = can_end d f in
    let w = leads_whole (ts ++ c.0) ((s.rest c.0).1 c.1) in
    record { rest = c.0 ++ (finish ∷ []); tree = w.0; whole = subst (WholeStream w.0) (append_assoc ts c.0 (finish ∷ [])) w.1 }

-- a list that goes on behind x and ends with z: it ends with x, or x stands before the last
snoc_rest :
    (xs rest body : List Token) (x z : Token) →
    (xs ++ (x ∷ [])) ++ rest ≡ body ++ (z ∷ []) →
    ((rest ≡ []) × (x ≡ z) × (xs ≡ body)) ⊎ ((r : List Token) × (body ≡ xs ++ (x ∷ r)))
snoc_rest [] rest [] x z e = inl (cc, cc, refl)
snoc_rest [] rest (b ∷ body) x z e = inr (body, cc)
snoc_rest (y ∷ xs) rest [] x z e = absurd (omega (arith, ap length e, length-append (xs ++ (x ∷ [])) rest, length-append xs (x ∷ [])))
snoc_rest (y ∷ xs) rest (b ∷ body) x z e =
    ⊎_elim (λ q. inl (q.0, q.1, cc q.2)) (λ q. inr (q.0, cc q.1)) (snoc_rest xs rest body x z (cc))

-- no whole stream goes on with a token that the state does not allow, other than the end token
pub state_stuck :
    {ts : List Token} {t : Token} {d : ℕ} {f : Bool} →
    State ts d f →
    (Allowed t d f → ⊥) →
    (t ≡ finish → ⊥) →
    Begins (ts ++ (t ∷ [])) →
    ⊥
state_stuck {ts} {t} {d} {f} s never other b =
    let w = b.whole in
    ⊎_elim
    (λ q. other q.1)
    (λ q. never (leads_allowed ((s.rest (t ∷ q.0)).0 (subst (Leads 0 true) q.1 (whole_leads w)))))
    (snoc_rest ts b.rest w.body t finish w.ends)

-- the end token comes only where every node is closed
pub finish_early : {ts : List Token} {d : ℕ} {f : Bool} → State ts d f → (Leads d f [] → ⊥) → Begins (ts ++ (finish ∷ [])) → ⊥
finish_early {ts} {d} {f} s never b =
    let w = b.whole in
    ⊎_elim
    (λ q. never ((s.rest []).0 (subst (Leads 0 true) (sym (append-nil ts ∙ q.2)) (whole_leads w))))
    (λ q. leads_allowed ((s.rest (finish ∷ q.0)).0 (subst (Leads 0 true) q.1 (whole_leads w))))
    (snoc_rest ts b.rest w.body finish finish w.ends)

-- nothing comes behind the end token
pub finish_last : {ts : List Token} {d : ℕ} {f : Bool} → State ts d f → (t : Token) → Begins ((ts ++ (finish ∷ [])) ++ (t ∷ [])) → ⊥
finish_last {ts} {d} {f} s t b =
    let w = b.whole in
    let more : (r : List Token) → w.body ≡ ts ++ (finish ∷ r) → ⊥ =
    λ r e. leads_allowed ((s.rest (finish ∷ r)).0 (subst (Leads 0 true) e (whole_leads w))) in
    ⊎_elim
    (λ q. more [] (sym q.2))
    (λ q. more (t ∷ q.0) (q.1 ∙ append_assoc ts (finish ∷ []) (t ∷ q.0)))
    (snoc_rest (ts ++ (finish ∷ [])) b.rest w.body t finish w.ends)
