-- SPDX-License-Identifier: BSD-2-Clause OR GPL-2.0-or-later
-- The number in a record's name: what the test of it means, and the name's last byte. Assumes nothing.
use mathlib.Core.Path.{◌≡◌, refl, sym, ap, ◌∙◌}
use mathlib.Core.Bool.{Bool, true, false, cond, not}
use mathlib.Core.List.{List, [], ◌∷◌, ◌++◌}
use Prim.Native.Nat.{ℕ, ◌+◌, ◌-◌, ◌%◌, ◌≤◌}
use native.Mathlib.Omega.{arith}
use lib.Dec.{eqb, ltb, leb}
use lib.ListN.{length, get_or, drop, length-append}
use lib.Seq.{get_or_at, get_or-take, get_or-drop}
use borrow.Author.Tests.{eqb-true, eqb-false, eq-eqb, ne_eqb, leb-true, le-leb}
use Rattle.laws.proofs.SearchLaws.{true_false}
use Rattle.laws.proofs.PassLaws.{not_cond}
use Rattle.laws.proofs.TestLaws.{false_unless}
use Rattle.laws.proofs.DecideLaws.{Decides}
use Rattle.names.specs.declared.TopologyName.{TopologyName}
use Rattle.names.specs.declared.TopologyName.TheVariants.{Socket, Cluster, Core, Thread, Other}
use Rattle.names.specs.facts.Kind.{Kind}
use Rattle.names.specs.answers.Name.{named_as, name_of}
use Rattle.names.proofs.NameMeans.{name_means, named_ends}
use Rattle.tables.specs.facts.Board.{range, node_count, name_offset, name_length}
use Rattle.tables.proofs.CodePool.{range_length}
use Rattle.cpumap.specs.answers.Path.{topology_name}
use Rattle.cpumap.specs.answers.Number.{is_numbered}
use Rattle.cpumap.specs.steps.LastDigit.{ends_otherwise}

-- a name has the number n exactly when it is that of some kind
pub numbered_kind : (name : TopologyName) (n : ℕ) → Decides (is_numbered n name) ((kind : Kind) × (name ≡ named_as kind n))
numbered_kind name n = (go name, λ t. rw t.1 (named t.0))
  where
    go : (x : TopologyName) → is_numbered n x ≡ true → (kind : Kind) × (x ≡ named_as kind n)
    go (Socket m) e = (Kind.socket, ap Socket (eqb-true m n e))
    go (Cluster m) e = (Kind.cluster, ap Cluster (eqb-true m n e))
    go (Core m) e = (Kind.core, ap Core (eqb-true m n e))
    go (Thread m) e = (Kind.thread, ap Thread (eqb-true m n e))
    go Other e = true_false e refl

    named : (kind : Kind) → is_numbered n (named_as kind n) ≡ true
    named Kind.socket = eq-eqb n n refl
    named Kind.cluster = eq-eqb n n refl
    named Kind.core = eq-eqb n n refl
    named Kind.thread = eq-eqb n n refl

-- the last byte of a range that lies inside the pool
range_last :
    (pool : List ℕ) (offset len : ℕ) (front : List ℕ) (d : ℕ) →
    offset + len ≤ length pool →
    range pool offset len ≡ front ++ (d ∷ []) →
    get_or pool (offset + len - 1) 0 ≡ d
range_last pool offset len front d inside e =
    let size : length front + 1 ≡ len = sym (length-append front (d ∷ [])) ∙ ap length (sym e) ∙ range_length pool offset len inside in
    let place : offset + (len - 1) ≡ offset + len - 1 = omega arith in
    ap (λ (k : ℕ). get_or pool k 0) (sym place)
    ∙ sym (get_or-drop offset pool (len - 1) 0)
    ∙ sym (get_or-take len (drop offset pool) (len - 1) 0 (omega arith))
    ∙ ap (λ (l : List ℕ). get_or l (len - 1) 0) e
    ∙ get_or_at front d [] 0 (len - 1) (omega arith)

module _ (nodes pool : List ℕ) (i n : ℕ) where
  abbrev bytes : List ℕ
  bytes = range pool (name_offset nodes i) (name_length nodes i)

  abbrev ends : ℕ
  ends = name_offset nodes i + name_length nodes i

  -- a name of the number n ends in its last digit
  name_last : ends ≤ length pool → is_numbered n (name_of bytes) ≡ true → get_or pool (ends - 1) 0 ≡ 48 + n % 10
  name_last inside e =
      let t = (numbered_kind (name_of bytes) n).0 e in
      let s = named_ends ((name_means bytes t.0 n).0 t.1) in
      range_last pool (name_offset nodes i) (name_length nodes i) s.0 (48 + n % 10) inside s.1

  -- so one that ends otherwise has another number
  pub ends_apart : ends_otherwise nodes pool i n ≡ true → is_numbered n (topology_name nodes pool i) ≡ false
  unfolding ends_otherwise topology_name
  ends_apart h =
      let t = otherwise (eqb (name_length nodes i) 0) (leb ends (length pool)) (eqb (get_or pool (ends - 1) 0) (48 + n % 10)) h in
      rw t.0 (go (leb-true ends (length pool) t.0) (eqb-false (get_or pool (ends - 1) 0) (48 + n % 10) t.1) (ltb i (node_count nodes)))
    where
      otherwise : (a b d : Bool) → cond a false (cond b (cond d false true) false) ≡ true → (b ≡ true) × (d ≡ false)
      otherwise true b d h = true_false h refl
      otherwise false true true h = true_false h refl
      otherwise false true false h = (refl, refl)
      otherwise false false d h = true_false h refl

      go : ends ≤ length pool → (get_or pool (ends - 1) 0 ≡ 48 + n % 10 → ⊥) → (b : Bool) → is_numbered n (cond b (name_of bytes) Other) ≡ false
      go inside ne true = false_unless (is_numbered n (name_of bytes)) (λ e. ne (name_last inside e))
      go inside ne false = refl

  -- the last byte read where the name lies inside the pool
  module _ {offset len : ℕ} (o : offset ≡ name_offset nodes i) (l : len ≡ name_length nodes i) (some : len ≡ 0 → ⊥) where
    pub ends_inside :
        {last : ℕ} →
        offset + len ≤ length pool →
        last ≡ get_or pool (offset + len - 1) 0 →
        not (eqb last (48 + n % 10)) ≡ ends_otherwise nodes pool i n
    unfolding ends_otherwise
    ends_inside {last} inside e =
        rw (← o, ← l, ne_eqb len 0 some, le-leb (offset + len) (length pool) inside, ← e) (not_cond (eqb last (48 + n % 10)))

    pub ends_outside : leb (offset + len) (length pool) ≡ false → false ≡ ends_otherwise nodes pool i n
    unfolding ends_otherwise
    ends_outside out = rw (← o, ← l, ne_eqb len 0 some, out)
