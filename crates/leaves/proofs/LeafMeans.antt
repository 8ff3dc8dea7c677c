-- SPDX-License-Identifier: BSD-2-Clause OR GPL-2.0-or-later
-- What a leaf's `cpu` says: the cpu record that it names. Assumes well-formed tables and phandles.
use Rattle.std.specs.Prelude.{None, Option, Some}
use mathlib.Core.Path.{◌≡◌, refl, sym, ◌∙◌}
use mathlib.Core.Bool.{Bool}
use mathlib.Core.Logic.{⊎_elim}
use Prim.Native.Nat.{ℕ, ◌≤◌, ◌<◌}
use native.Mathlib.Omega.{arith}
use lib.Dec.{eqb}
use lib.ListN.{length, get_or}
use borrow.Author.Tests.{eq-eqb, eqb-true}
use Rattle.laws.specs.answers.Search.{lowest}
use Rattle.laws.proofs.SearchLaws.{true_false, lt_or_le, lowest_below, lowest_passes}
use Rattle.tables.specs.facts.Board.{Board, WordSized}
use Rattle.tables.specs.facts.Property.{cell_bytes}
use Rattle.wellformed.specs.facts.Rules.{WellFormed}
use Rattle.tables.specs.facts.Binding.{cpu_key}
use Rattle.cpus.specs.facts.Node.{Phandle}
use Rattle.cpus.specs.facts.Rules.{SoundPhandles}
use Rattle.cpus.specs.answers.Cell.{cell_in, cell_of}
use Rattle.cpus.specs.answers.Check.{cpu_list, phandle_list}
use Rattle.cpus.proofs.ValueMeans.{value_unique, cell_test, test_cell}
use Rattle.leaves.specs.facts.Leaf.{Names}
use Rattle.leaves.specs.answers.Check.{index_of, leaf_cpu, cpu_property}
use Rattle.leaves.proofs.PhandleMeans.{cpu_at, cpu_index, in_cpus, in_phandles, cpu_index_lem, index_cpu, phandle_at, index_apart}

-- the index that a record's `cpu` gives
abbrev pub named_index : Board → ℕ → ℕ
named_index b i = leaf_cpu (cpu_property b.props b.pool) b.pool (phandle_list b) i

module _ {b : Board} (sized : WordSized b) (well : WellFormed b) (handles : SoundPhandles b) where
  -- it is that of a cpu record which the record names ..
  pub index_names : (i : ℕ) → named_index b i < length (phandle_list b) → Names b i (cpu_at b (named_index b i))
  unfolding leaf_cpu cell_of
  index_names i = go (cell_of b.props b.pool i cpu_key) refl
    where
      go :
          (x : Option ℕ) →
          cell_of b.props b.pool i cpu_key ≡ x →
          index_of (phandle_list b) x < length (phandle_list b) →
          Names b i (cpu_at b (index_of (phandle_list b) x))
      go None e lt = absurd (omega arith)
      go (Some w) e lt =
          let test : ℕ → Bool = λ j. eqb (get_or (phandle_list b) j 0) w in
          let k = lowest test (length (phandle_list b)) in
          let same : get_or (phandle_list b) k 0 ≡ w = eqb-true _ _ (lowest_passes test (length (phandle_list b)) lt) in
          record {
            value = cell_bytes w;
            four = refl;
            cpu = (cell_test sized well i cpu_key e).0;
            is_cpu = index_cpu well k (in_cpus b lt);
            phandle = rw same at (phandle_at sized well handles k (in_cpus b lt)).value;
          }

  -- .. and a record that names a cpu record gives its index
  pub names_index : (i c : ℕ) → Names b i c → named_index b i ≡ cpu_index b c
  unfolding leaf_cpu cell_of
  names_index i c n = rw cell_is found
    where
      k : ℕ
      k = cpu_index b c

      h : ℕ
      h = get_or (phandle_list b) k 0

      in_k : k < length (cpu_list b)
      in_k = (cpu_index_lem well c n.is_cpu).0

      of_c : Phandle b c h
      of_c = rw (cpu_index_lem well c n.is_cpu).1 at (phandle_at sized well handles k in_k)

      cell_is : cell_in b.pool (cpu_property b.props b.pool i) ≡ Some h
      cell_is = test_cell sized well i cpu_key (rw (value_unique well n.phandle of_c.value) at n.cpu) of_c.word

      test : ℕ → Bool
      test j = eqb (get_or (phandle_list b) j 0) h

      first : ℕ
      first = lowest test (length (phandle_list b))

      first_le : first ≤ k
      first_le = ⊎_elim (λ lt. true_false (eq-eqb h h refl) (lowest_below test (length (phandle_list b)) k lt)) (λ le. le) (lt_or_le k first)

      found : first ≡ k
      found =
          let in_first : first < length (phandle_list b) = omega (arith, in_phandles b in_k, first_le) in
          index_apart sized well handles first k (in_cpus b in_first) in_k (eqb-true _ _ (lowest_passes test (length (phandle_list b)) in_first))

  -- so it is an index where the record names a cpu record, the only one, and else none
  pub names_inside : (i c : ℕ) → Names b i c → named_index b i < length (phandle_list b)
  names_inside i c n = rw (names_index i c n) (in_phandles b (cpu_index_lem well c n.is_cpu).0)

  pub names_at : (i c : ℕ) → Names b i c → cpu_at b (named_index b i) ≡ c
  names_at i c n = rw (names_index i c n) (cpu_index_lem well c n.is_cpu).1

  pub names_unique : (i c d : ℕ) → Names b i c → Names b i d → c ≡ d
  names_unique i c d m n = sym (names_at i c m) ∙ names_at i d n

  pub names_none : (i : ℕ) → length (phandle_list b) ≤ named_index b i → (c : ℕ) → Names b i c → ⊥
  names_none i le c n = let lt = names_inside i c n in omega arith
