-- SPDX-License-Identifier: BSD-2-Clause OR GPL-2.0-or-later
-- What the walk tells: a tree, or the first token that breaks the structure. Assumes nothing.
use Rattle.std.specs.Prelude.{Err, Ok, Result}
use mathlib.Core.Path.{◌≡◌, refl, sym, ◌∙◌, ap, subst}
use mathlib.Core.Bool.{Bool, true, false, cond}
use mathlib.Core.List.{List, [], ◌∷◌, ◌++◌, append-nil, append_assoc}
use Prim.Native.Nat.{ℕ, zero, suc, ◌+◌, ◌-◌, ◌%◌, ◌≤◌, ◌<◌}
use native.Mathlib.Omega.{arith}
use lib.Dec.{ltb, eqb}
use lib.ListN.{length}
use borrow.Author.Tests.{ltb-true, ltb-false, eqb-true, ne_eqb}
use Rattle.laws.proofs.SearchLaws.{true_false}
use Rattle.tokens.specs.declared.TokenRead.{TokenRead}
use Rattle.tokens.specs.declared.TokenRead.TheVariants.{Begin, Close, Property, Nop, End, Unsound}
use Rattle.tokens.specs.facts.Token.{Blocks, Token, begin, close, property, nop, finish, TokenAt, Run, stop, more}
use Rattle.tokens.specs.facts.Token.{begin_at, close_at, property_at, nop_at, finish_at}
use Rattle.tokens.specs.answers.Read.{behind_zero, token_read}
use Rattle.tokens.proofs.TokenLaws.{Means, token_long, token_means}
use Rattle.stream.specs.declared.Walk.{Walk}
use Rattle.stream.specs.declared.Next.TheVariants.{On, Ends, Breaks}
use Rattle.stream.specs.facts.Tree.{Nodes, tokens_of}
use Rattle.stream.specs.facts.Stream.{WholeStream, Begins, Holds, BrokenAt}
use Rattle.stream.specs.answers.Walk.{begun_root, begun_in, begun, closed, owned, passed, step_of, onward, walk_start, walk_from, walk}
use Rattle.stream.proofs.StreamLaws.{Leads, done, skip, rooted, deeper, up, own, leads_tree}
use Rattle.stream.proofs.StateLaws.{State, state_start, state_move, Moves, nop_moves, root_moves, begin_moves, close_moves, own_moves}
use Rattle.stream.proofs.StateLaws.{Allowed, can_end, leads_whole, state_begins, state_stuck, finish_early, finish_last}
use Rattle.stream.proofs.TallyLaws.{tally_of, no_tally, tally_one, tally, tally_snoc, tally_nops, begun_tally}
use Rattle.stream.proofs.UniqueLaws.{token_unique, token_inside, whole_begins}

run_snoc : {b : Blocks} {a p next : ℕ} {t : Token} {ts : List Token} → Run b a ts p → TokenAt b p t next → Run b a (ts ++ (t ∷ [])) next
run_snoc stop k = more k stop
run_snoc (more h r) k = more h (run_snoc r k)

-- the next token stands in the block or at its end, at a multiple of four
token_next :
    {b : Blocks} {at next : ℕ} {t : Token} →
    TokenAt b at t next →
    at % 4 ≡ 0 →
    length b.structure % 4 ≡ 0 →
    (next ≤ length b.structure) × (next % 4 ≡ 0)
token_next (begin_at c h) e f = let i = h.inside in (omega arith, omega arith)
token_next (close_at c) e f = let i = c.inside in (omega arith, omega arith)
token_next (property_at c d g le h) e f = (omega arith, omega arith)
token_next (nop_at c) e f = let i = c.inside in (omega arith, omega arith)
token_next (finish_at c) e f = let i = c.inside in (omega arith, omega arith)

-- the end token stands in no stream that still leads to the end
no_finish : (ts rest : List Token) {d : ℕ} {f : Bool} → Leads d f (ts ++ (finish ∷ rest)) → ⊥
no_finish [] rest {d = d} {f = f} h = elim h [ ]
no_finish (finish ∷ ts) rest {d = d} {f = f} h = elim h [ ]
no_finish (nop ∷ ts) rest (skip h) = no_finish ts rest h
no_finish (begin n l ∷ ts) rest (rooted h) = no_finish ts rest h
no_finish (begin n l ∷ ts) rest (deeper h) = no_finish ts rest h
no_finish (close ∷ ts) rest (up h) = no_finish ts rest h
no_finish (property n l v s ∷ ts) rest (own h) = no_finish ts rest h

state_not_whole : {ts : List Token} {d : ℕ} {f : Bool} {tree : Nodes} → State ts d f → WholeStream tree ts → ⊥
state_not_whole {ts} {d} {f} s w =
    let c = can_end d f in
    let same = ap (λ (z : List Token). z ++ c.0) w.ends ∙ append_assoc w.body (finish ∷ []) c.0 in
    no_finish w.body c.0 (subst (Leads 0 true) same ((s.rest c.0).1 c.1))

suc_not : (d : ℕ) → eqb (suc d) 0 ≡ false
suc_not d = ne_eqb (suc d) 0 (λ e. omega arith)

leads_empty : {d : ℕ} {f : Bool} {ts : List Token} → Leads d f ts → length ts ≡ 0 → (d ≡ 0) × (f ≡ false)
leads_empty done e = (refl, refl)
leads_empty (skip h) e = absurd (omega arith)
leads_empty (rooted h) e = absurd (omega arith)
leads_empty (deeper h) e = absurd (omega arith)
leads_empty (up h) e = absurd (omega arith)
leads_empty (own h) e = absurd (omega arith)

-- the walk behind a begin token
abbrev Begun : Walk → ℕ → Walk → Type 0
Begun w next v = (v.at ≡ next) × (v.depth ≡ w.depth + 1) × (v.fresh ≡ true)

begun_is : (block : List ℕ) (w : Walk) (len next : ℕ) → Begun w next (begun block w len next)
unfolding begun
begun_is block w len next = go (eqb w.depth 1) refl
  where
    go : (t : Bool) → eqb w.depth 1 ≡ t → Begun w next (cond t (begun_root block w len next) (begun_in w next))
    go true e = (refl, let q = eqb-true w.depth 1 e in omega arith, refl)
    go false e = (refl, refl, refl)

abbrev pub Tells : Blocks → Result Walk ℕ → Type 0
Tells b (Ok w) = (tree : Nodes) × Holds b tree × (tally_of w ≡ tally b.structure (tokens_of tree) no_tally)
Tells b (Err p) = BrokenAt b p

-- the walk so far: what it leaves open, and the tokens that it passed
record Came (b : Blocks) (w : Walk) (ts : List Token) : Type 0 where
  state : State ts w.depth w.fresh
  run : Run b b.start ts w.at
  whole_cell : w.at % 4 ≡ 0
  counted : tally_of w ≡ tally b.structure ts no_tally

module _ (b : Blocks) (even : length b.structure % 4 ≡ 0) where
  abbrev block : List ℕ
  block = b.structure

  abbrev end : ℕ
  end = length b.structure

  abbrev on : ℕ → Walk → Result Walk ℕ
  on = walk_from b.structure (behind_zero b.strings)

  module _
      (k : ℕ)
      (ih : (w : Walk) (ts : List Token) → Came b w ts → w.at ≤ end → end - w.at ≤ k → Tells b (on k w))
      (w : Walk)
      (ts : List Token)
      (c : Came b w ts)
      (lt : w.at < end)
      (le : end - w.at ≤ suc k)
    where
      -- one token more
      goes :
          (v : Walk) {t : Token} {next d e : ℕ} {f g : Bool} →
          State ts d f →
          TokenAt b w.at t next →
          Moves t d f e g →
          v.at ≡ next →
          v.depth ≡ e →
          v.fresh ≡ g →
          tally_of v ≡ tally_one block t (tally_of w) →
          Tells b (on k v)
      goes v {t} {next} {d} {e} {f} {g} s h m x y z n =
          let after = token_next h c.whole_cell even in
          let far = token_long h in
          let near = after.0 in
          let all = ts ++ (t ∷ []) in
          ih v all
          (record {
            state = subst (λ (q : ℕ). State all q v.fresh) (sym y) (subst (State all e) (sym z) (state_move s m));
            run = subst (Run b b.start all) (sym x) (run_snoc c.run h);
            whole_cell = ap (λ (q : ℕ). q % 4) x ∙ after.1;
            counted = n ∙ ap (tally_one block t) c.counted ∙ sym (tally_snoc block ts t no_tally);
          })
          (omega arith)
          (omega arith)

      -- no token here goes on with what stands before it
      broken : ((t : Token) (next : ℕ) → TokenAt b w.at t next → Begins (ts ++ (t ∷ [])) → ⊥) → BrokenAt b w.at
      broken h =
          record {
            before = ts;
            stands = c.run;
            begins = state_begins c.state;
            no_token = λ {t} {next} x g. h t next x g;
            not_whole = λ e x. absurd (omega arith);
          }

      -- the token here does not
      breaks : {u : Token} {far : ℕ} → TokenAt b w.at u far → (Begins (ts ++ (u ∷ [])) → ⊥) → BrokenAt b w.at
      breaks h never = broken (λ t next x g. never (subst (λ (y : Token). Begins (ts ++ (y ∷ []))) (token_unique x h).0 g))

      -- the state does not allow it
      stuck :
          {d far : ℕ} {f : Bool} {u : Token} →
          State ts d f →
          TokenAt b w.at u far →
          (Allowed u d f → ⊥) →
          (u ≡ finish → ⊥) →
          BrokenAt b w.at
      stuck s h never other = breaks h (state_stuck s never other)

      tell_begin :
          (len next : ℕ) →
          TokenAt b w.at (begin (w.at + 4) len) next →
          Tells b (onward (step_of block w (Begin len next)) (on k))
      tell_begin len next h = go w.depth w.fresh c.state refl
        where
          v : Walk
          v = begun block w len next

          is : Begun w next v
          is = begun_is block w len next

          go : (d : ℕ) (f : Bool) → State ts d f → w.depth ≡ d → Tells b (onward (cond (eqb d 0) (cond f (On v) (Breaks w.at)) (On v)) (on k))
          go zero true s q = goes v s h root_moves is.0 (is.1 ∙ omega arith) is.2 (begun_tally block w len next)
          go zero false s q = stuck s h (λ x. x) (λ x. let z : ◌≡◌ {A = ℕ} 0 1 = cc in omega arith)
          go (suc d) f s q = rw (suc_not d) (goes v s h begin_moves is.0 (is.1 ∙ omega arith) is.2 (begun_tally block w len next))

      tell_close : TokenAt b w.at close (w.at + 4) → Tells b (onward (step_of block w Close) (on k))
      tell_close h = go w.depth w.fresh c.state refl
        where
          go : (d : ℕ) (f : Bool) → State ts d f → w.depth ≡ d → Tells b (onward (cond (eqb d 0) (Breaks w.at) (On (closed w))) (on k))
          go zero f s q = stuck s h (λ x. x) (λ x. let z : ◌≡◌ {A = ℕ} 0 1 = cc in omega arith)
          go (suc d) f s q = rw (suc_not d) (goes (closed w) s h close_moves refl (omega arith) refl refl)

      tell_property :
          (name size next : ℕ) →
          Means b w.at (Property name size next) →
          Tells b (onward (step_of block w (Property name size next)) (on k))
      tell_property name size next h = go w.depth w.fresh c.state refl
        where
          go :
              (d : ℕ) (f : Bool) →
              State ts d f →
              w.depth ≡ d →
              Tells b (onward (cond (eqb d 0) (Breaks w.at) (cond f (On (owned w next)) (Breaks w.at))) (on k))
          go zero f s q = stuck s h (λ x. x) (λ x. let z : ◌≡◌ {A = ℕ} 0 1 = cc in omega arith)
          go (suc d) true s q = rw (suc_not d) (goes (owned w next) s h own_moves refl q refl refl)
          go (suc d) false s q = rw (suc_not d) (stuck s h (λ x. x) (λ x. let z : ◌≡◌ {A = ℕ} 0 1 = cc in omega arith))

      tell_end : TokenAt b w.at finish (w.at + 4) → Tells b (onward (step_of block w End) (on k))
      tell_end h = go w.depth w.fresh c.state
        where
          all_closed : State ts 0 false → Leads 0 true ts
          all_closed s = subst (Leads 0 true) (append-nil ts) ((s.rest []).1 done)

          last : State ts 0 false → (t : Bool) → ltb (w.at + 4) end ≡ t → Tells b (onward (cond t (Breaks (w.at + 4)) (Ends w)) (on k))
          last s true q =
              let lt4 = ltb-true (w.at + 4) end q in
              record {
                before = ts ++ (finish ∷ []);
                stands = run_snoc c.run h;
                begins = whole_begins (leads_whole ts (all_closed s)).1;
                no_token = λ {t} {next} x g. finish_last s t g;
                not_whole = λ e x. absurd (omega arith);
              }
          last s false q =
              let ge = ltb-false (w.at + 4) end q in
              let near = token_inside h in
              let same : w.at + 4 ≡ end = omega arith in
              let all = leads_tree (all_closed s) in (
                all.0,
                record {
                  tokens = ts ++ (finish ∷ []);
                  stands = subst (Run b b.start (ts ++ (finish ∷ []))) same (run_snoc c.run h);
                  whole = record { one_root = all.1; body = ts; ends = refl; tokens = all.2 };
                },
                c.counted ∙ tally_nops block ts no_tally ∙ ap (λ (z : List Token). tally block z no_tally) all.2,
              )

          go :
              (d : ℕ) (f : Bool) →
              State ts d f →
              Tells b
              (onward
              (cond (eqb d 0) (cond f (Breaks w.at) (cond (ltb (w.at + 4) end) (Breaks (w.at + 4)) (Ends w))) (Breaks w.at))
              (on k))
          go zero true s = breaks h (finish_early s (λ x. true_false refl (leads_empty x refl).1))
          go zero false s = last s (ltb (w.at + 4) end) refl
          go (suc d) f s = rw (suc_not d) (breaks h (finish_early s (λ x. let z = (leads_empty x refl).0 in omega arith)))

      tell_step : (r : TokenRead) → Means b w.at r → Tells b (onward (step_of block w r) (on k))
      tell_step (Begin len next) h = tell_begin len next h
      tell_step Close h = tell_close h
      tell_step (Property name size next) h = tell_property name size next h
      tell_step Nop h = goes (passed w) c.state h nop_moves refl refl refl refl
      tell_step End h = tell_end h
      tell_step Unsound h = broken (λ t next x g. h t next x)

  -- no token is left
  tell_out : {w : Walk} {ts : List Token} → Came b w ts → w.at ≤ end → end ≤ w.at → BrokenAt b end
  tell_out {w} {ts} c le ge =
      let same : w.at ≡ end = omega arith in
      record {
        before = ts;
        stands = subst (Run b b.start ts) same c.run;
        begins = state_begins c.state;
        no_token = λ {t} {next} k g. let i = token_inside k in omega arith;
        not_whole = λ e {tree} x. state_not_whole c.state x;
      }

  -- the walk from any place that it came to
  walk_tells : (k : ℕ) (w : Walk) (ts : List Token) → Came b w ts → w.at ≤ end → end - w.at ≤ k → Tells b (on k w)
  unfolding walk_from
  walk_tells zero w ts c le few = tell_out c le (omega arith)
  walk_tells (suc k) w ts c le few = go (ltb w.at end) refl (walk_tells k)
    where
      go :
          (t : Bool) →
          ltb w.at end ≡ t →
          ((v : Walk) (us : List Token) → Came b v us → v.at ≤ end → end - v.at ≤ k → Tells b (on k v)) →
          Tells b (cond t (onward (step_of block w (token_read block (behind_zero b.strings) w.at)) (on k)) (Err end))
      go true e ih = tell_step k ih w ts c (ltb-true w.at end e) few (token_read block (behind_zero b.strings) w.at) (token_means b w.at)
      go false e ih = tell_out c le (ltb-false w.at end e)

-- the whole walk
pub walk_all :
    (b : Blocks) →
    b.start % 4 ≡ 0 →
    length b.structure % 4 ≡ 0 →
    b.start ≤ length b.structure →
    Tells b (walk b.structure (behind_zero b.strings) b.start)
unfolding tally
walk_all b begins even le =
    let c : Came b (walk_start b.start) [] = record { state = state_start; run = stop; whole_cell = begins; counted = refl } in
    walk_tells b even (length b.structure - b.start) (walk_start b.start) [] c le (omega arith)
