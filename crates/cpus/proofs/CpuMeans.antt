-- SPDX-License-Identifier: BSD-2-Clause OR GPL-2.0-or-later
-- What the tests of cpu records say, and the list of them. Assumes nothing.
use mathlib.Core.Path.{◌≡◌, refl, sym, ap, ◌∙◌}
use mathlib.Core.Bool.{Bool, true, false, cond}
use mathlib.Core.Logic.{◌⊎◌, ⊎_elim}
use mathlib.Core.List.{List, ◌++◌}
use Prim.Native.Nat.{ℕ, ◌+◌, ◌-◌, ◌≤◌}
use native.Mathlib.Omega.{arith}
use lib.Dec.{eqb, ltb}
use lib.ListN.{length, take, drop, length-take, length-append}
use lib.Seq.{take-take, take-add, take-append_seam}
use borrow.Author.Tests.{ltb-false}
use Rattle.laws.specs.facts.Listing.{Listing}
use Rattle.laws.proofs.SearchLaws.{lt_or_le, list_length}
use Rattle.laws.proofs.ListingLaws.{listed}
use Rattle.laws.proofs.DecideLaws.{Decides, decides_as, lt_decides, then_decides, either_decides, without_decides}
use Rattle.tables.specs.facts.Board.{Board, Inside, node_count, node_name, name_offset, name_length}
use Rattle.tables.specs.answers.Range.{range_is}
use Rattle.wellformed.specs.facts.Rules.{WellFormed}
use Rattle.tables.proofs.DecideLaws.{child_test, range_decides, range_test}
use Rattle.wellformed.proofs.WellFormedLaws.{wf_name}
use Rattle.tables.specs.facts.Binding.{cpu_word, cpu_unit}
use Rattle.cpus.specs.facts.Node.{Begins, Cpu}
use Rattle.laws.specs.facts.Limits.{max_cpus}
use Rattle.cpus.specs.answers.Check.{is_cpu_name, is_cpu, cpu_count, count_fault, cpu_list}

-- a range of the pool begins with given bytes where its first part is these bytes
module _ (l start : List ℕ) (len : ℕ) where
  starts_begins : length start ≤ len → take (length start) l ≡ start → Begins (take len l) start
  starts_begins le e =
      let split : len ≡ length start + (len - length start) = omega arith in
      record {
        rest = take (len - length start) (drop (length start) l);
        whole =
            ap (λ (n : ℕ). take n l) split
            ∙ take-add (length start) (len - length start) l
            ∙ ap (λ (s : List ℕ). s ++ take (len - length start) (drop (length start) l)) e;
      }

  begins_starts : Begins (take len l) start → (length start ≤ len) × (take (length start) l ≡ start)
  begins_starts h = (le, sym (take-take (length start) len l le) ∙ ap (take (length start)) h.whole ∙ take-append_seam start h.rest)
    where
      le : length start ≤ len
      le = omega (arith, sym (length-take len l) ∙ ap length h.whole ∙ length-append start h.rest)

module _ {b : Board} (well : WellFormed b) where
  module _ (i : ℕ) where
    abbrev offset : ℕ
    offset = name_offset b.nodes i

    abbrev len : ℕ
    len = name_length b.nodes i

    name_test : Inside b.pool offset len → Decides (is_cpu_name b.pool offset len) ((node_name b i ≡ cpu_word) ⊎ Begins (node_name b i) cpu_unit)
    unfolding is_cpu_name
    name_test inside = either_decides (range_test b.pool offset len cpu_word inside) unit
      where
        unit : Decides (cond (ltb len 4) false (range_is b.pool offset 4 cpu_unit)) (Begins (node_name b i) cpu_unit)
        unit =
            decides_as (without_decides (lt_decides len 4) (range_decides b.pool offset 4 cpu_unit))
            (λ h. starts_begins (drop offset b.pool) cpu_unit len (⊎_elim (λ l. absurd (h.0 l)) (λ l. l) (lt_or_le len 4)) h.1.1)
            (λ h. let t = begins_starts (drop offset b.pool) cpu_unit len h in let le = t.0 in (λ l. omega arith, (omega arith, t.1)))

    -- cpu records
    pub cpu_test : Decides (is_cpu b.nodes b.pool i) (Cpu b i)
    unfolding is_cpu
    cpu_test =
        decides_as (then_decides (child_test b.nodes 0 i) (λ c. name_test (wf_name well i c.inside).inside))
        (λ h. record { child = h.0; name = h.1 })
        (λ c. (c.child, c.name))

  -- the list of cpu records
  pub cpu_listing : Listing (Cpu b) (cpu_list b)
  cpu_listing = listed (is_cpu b.nodes b.pool) (node_count b.nodes) (λ i c. (c.child.inside, (cpu_test i).1 c)) (λ i _. (cpu_test i).0)

pub cpu_count_lem : (b : Board) → cpu_count b ≡ length (cpu_list b)
cpu_count_lem b = sym (list_length (is_cpu b.nodes b.pool) (node_count b.nodes))

-- a number of cpu records that rule 10 allows
pub count_fits : (n : ℕ) → count_fault n ≡ 0 → n ≤ max_cpus
count_fits n = go (eqb n 0) (ltb max_cpus n) refl
  where
    go : (a d : Bool) → ltb max_cpus n ≡ d → ◌≡◌ {A = ℕ} (cond a 10 (cond d 10 0)) 0 → n ≤ max_cpus
    go true d q h = absurd (omega arith)
    go false true q h = absurd (omega arith)
    go false false q h = ltb-false max_cpus n q
