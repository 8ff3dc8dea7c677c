-- SPDX-License-Identifier: BSD-2-Clause OR GPL-2.0-or-later
-- The survey stops at the first fault: its stages, and what those of the code tell of a board. Assumes nothing.
use mathlib.Core.Path.{◌≡◌, refl, sym, ap, ◌∙◌}
use Rattle.std.specs.Prelude.{Result, Err}
use mathlib.Core.Logic.{inr}
use mathlib.Core.List.{List, map}
use Prim.Native.Nat.{ℕ, ◌*◌, ◌≤◌, min}
use native.Mathlib.Omega.{arith}
use lib.ListN.{length, take, replicate, length-map}
use lib.Seq.{take_all}
use borrow.Author.Tests.{eq-eqb, ne_eqb}
use Rattle.laws.specs.facts.Told.{Fault}
use Rattle.laws.specs.declared.rules.Refusal.{Refusal}
use Rattle.laws.specs.answers.Fault.{told, or_else}
use Rattle.laws.specs.answers.Told.{told_of}
use Rattle.laws.proofs.ToldLaws.{rule_counts}
use Rattle.laws.specs.answers.Search.{count_below, list_below}
use Rattle.laws.proofs.FaultLaws.{or_first}
use Rattle.laws.proofs.OrElseLaws.{or_clear, or_assoc}
use Rattle.tables.specs.facts.Board.{Board, node_count}
use Rattle.tables.specs.answers.Lookup.{lookup}
use Rattle.laws.specs.facts.Limits.{max_nodes, max_cpus}
use Rattle.wellformed.specs.facts.Rules.{WellFormed}
use Rattle.wellformed.specs.answers.Check.{table_fault}
use Rattle.wellformed.proofs.WellFormedLaws.{wf_nodes, wf_props, wf_prop_node}
use Rattle.property_index.specs.declared.Key.{Key}
use Rattle.property_index.specs.declared.Key.TheVariants.{Cpu}
use Rattle.property_index.specs.facts.Key.{key_name}
use Rattle.property_index.specs.answers.Index.{indexed, indexed_at}
use Rattle.property_index.proofs.IndexLaws.{index_finds}
use Rattle.cpus.specs.facts.Told.{CpuReading}
use Rattle.cpus.specs.declared.CpuNumbers.{CpuNumbers}
use Rattle.cpus.specs.answers.Check.{is_cpu, root_fault, cpu_count, cpu_list, count_fault, phandle_readings, cpu_fault, cpus_fault, phandles_fault}
use Rattle.cpus.specs.answers.Check.{phandle_list}
use Rattle.cpus.specs.answers.Numbers.{reading_at, reading_of, first_record, numbers_over}
use Rattle.cpus.proofs.CpuMeans.{cpu_count_lem}
use Rattle.cpus.proofs.ScanLaws.{same_reading, numbers_clear}
use Rattle.cpumap.specs.answers.Find.{map_of, map_fault}
use Rattle.leaves.specs.answers.Scan.{lent_tree, leaves_fault, tree_of, leaves_of}
use Rattle.leaves.proofs.PropertyLaws.{same_cpus}
use Rattle.leaves.proofs.ScanLaws.{leaves_few}
use Rattle.laws.specs.answers.Listed.{laid_over}
use Rattle.board.specs.declared.Counts.{Counts}
use Rattle.board.specs.steps.Told.{Surveyed, survey_told}
use Rattle.demands.specs.answers.Survey.{survey_fault}
use Rattle.board.specs.steps.Survey.{stopped, survey_of}
use Rattle.demands.proofs.LayerLaws.{few_cpus}

-- the faults from each stage on
module _ (b : Board) where
  abbrev pub map_stage : Fault
  map_stage = map_fault b.nodes b.pool

  abbrev pub from_phandles : Fault
  from_phandles = or_else (phandles_fault b) (leaves_fault (tree_of b) (cpu_list b))

  abbrev pub from_map : Fault
  from_map = or_else map_stage from_phandles

  abbrev pub from_cpus : Fault
  from_cpus = or_else (cpu_fault b) from_map

  abbrev pub from_count : Fault
  from_count = or_else (told (count_fault (cpu_count b)) 0) from_cpus

  abbrev pub from_root : Fault
  from_root = or_else (root_fault b) from_count

  pub survey_stages : survey_fault b ≡ or_else (table_fault b) from_root
  unfolding survey_fault cpus_fault
  survey_stages = simp or_assoc

  -- what the contract asks where a fault is told, and where none is
  module _ {r : Surveyed} {A : Type 0} where
    pub tells : {f g : Fault} → survey_fault b ≡ f → r ≡ stopped g → (g.number ≡ 0 → ⊥) → g ≡ f → (r ≡ survey_of b) × ((survey_fault b).number ≡ 0 → A)
    unfolding survey_of
    tells {g = g} e is ne same =
        let told : survey_fault b ≡ g = e ∙ sym same in
        (rw (told, ne_eqb g.number 0 ne) is, λ z. absurd (ne (ap (λ (f : Fault). f.number) (sym told) ∙ z)))

    pub tells_first :
        {g : Fault} (f rest : Fault) →
        survey_fault b ≡ or_else f rest →
        r ≡ stopped g →
        (g.number ≡ 0 → ⊥) →
        g ≡ f →
        (r ≡ survey_of b) × ((survey_fault b).number ≡ 0 → A)
    tells_first f rest e is ne same =
        tells (e ∙ or_first f rest (λ z. ne (ap (λ (a : Fault). a.number) same ∙ z))) is ne same

  -- a call that gives up with what a stage tells
  module _ {r : Result Counts Refusal} {e e' : Refusal} {A : Type 0} (is : r ≡ Err e) (given : e ≡ e') where
    pub gives_up :
        (f rest : Fault) → survey_fault b ≡ or_else f rest → told_of e' ≡ f → (survey_told r ≡ survey_of b) × ((survey_fault b).number ≡ 0 → A)
    gives_up f rest s same = rw (is, given) (tells_first f rest s refl (rule_counts e'.rule) same)

    pub gives_up_last :
        (f : Fault) → survey_fault b ≡ f → told_of e' ≡ f → (survey_told r ≡ survey_of b) × ((survey_fault b).number ≡ 0 → A)
    gives_up_last f s same = rw (is, given) (tells s refl (rule_counts e'.rule) same)

  pub clears :
      {f : Fault} {cpus leaves : ℕ} {A : Type 0} →
      f ≡ survey_fault b →
      (survey_fault b).number ≡ 0 →
      cpus ≡ cpu_count b →
      leaves ≡ length (leaves_of b) →
      A →
      (record { fault = f; cpus = cpus; leaves = leaves } ≡ survey_of b) × ((survey_fault b).number ≡ 0 → A)
  unfolding survey_of
  clears same z e g a = (rw (eq-eqb (survey_fault b).number 0 z, same, e, g), λ _. a)

-- no cpu record of a well-formed table is left out
module _ (b : Board) (well : WellFormed b) where
  all_records : min (node_count b.nodes) max_nodes ≡ node_count b.nodes
  all_records = omega (arith, (wf_nodes well).1)

  pub counted_all : count_below (is_cpu b.nodes b.pool) (min (node_count b.nodes) max_nodes) ≡ cpu_count b
  counted_all = rw all_records

  pub listed_all :
      (before : List ℕ) → laid_over (list_below (is_cpu b.nodes b.pool) (min (node_count b.nodes) max_nodes)) before ≡ laid_over (cpu_list b) before
  listed_all before = rw all_records

-- the index of a board's properties
abbrev pub board_keys : Board → List ℕ
board_keys b = indexed (replicate 4096 0) b.props b.pool

-- a board with well-formed tables; what was read before a stage
module _ (b : Board) (well : WellFormed b) {index records : List ℕ} (keys_are : index ≡ board_keys b) (records_are : records ≡ cpu_list b) where
  finds : (i : ℕ) (key : Key) → indexed_at b.props index i key ≡ lookup b.props b.pool i (key_name key)
  finds i key =
      rw keys_are
      (index_finds b.props b.pool (wf_props well).0 i key
      (λ k lt. inr (omega (arith, wf_prop_node well k lt, (wf_nodes well).1))))

  -- rules 11 to 13, and rule 17: the readings by the index of properties and the records listed
  module _ {asked wanted : CpuNumbers} (Asked-is : asked ≡ wanted) (rule : ℕ) where
    abbrev here : ℕ → CpuReading
    here = reading_at asked b.props b.pool index

    abbrev there : ℕ → CpuReading
    there = reading_of wanted b.props b.pool

    readings : here ≡ there
    readings = rw Asked-is (same_reading wanted b.props b.pool index finds)

    pub numbers_stage : first_record here rule records ≡ first_record there rule (cpu_list b)
    numbers_stage = rw (readings, records_are)

    pub numbers_found :
        (before : List ℕ) →
        (first_record there rule (cpu_list b)).number ≡ 0 →
        numbers_over here rule records before ≡ laid_over (map (λ i. (there i).value) (cpu_list b)) before
    numbers_found before z = rw (readings, records_are) (numbers_clear there rule (cpu_list b) before z)

  -- rules 18 to 26: no record and no phandle is cut off
  pub tree_is :
      {root : ℕ} {phandles : List ℕ} →
      root ≡ map_of b.nodes b.pool →
      phandles ≡ phandle_list b →
      length phandles ≤ max_cpus →
      lent_tree b.nodes b.props b.pool index root phandles ≡ tree_of b
  tree_is {phandles = phandles} root_is phandles_are few =
      let fits : length b.nodes ≤ 3 * max_nodes = omega (arith, (wf_nodes well).1, (wf_nodes well).2) in
      let whole : take (3 * max_nodes) b.nodes ≡ b.nodes = take_all (3 * max_nodes) b.nodes fits in
      rw (root_is, whole, take_all max_cpus phandles few ∙ phandles_are, same_cpus b.props b.pool index (λ i. finds i Cpu))

-- where the survey tells nothing, there are few cpu records, and no more leaves than these
pub survey_few : (b : Board) → (survey_fault b).number ≡ 0 → (cpu_count b ≤ max_cpus) × (length (leaves_of b) ≤ cpu_count b)
unfolding survey_fault
survey_few b z =
    let late = (or_clear (table_fault b) _ z).1 in
    let tree_clear = (or_clear (phandles_fault b) _ (or_clear (map_stage b) _ (or_clear (cpus_fault b) _ late).1).1).1 in
    let leaves = leaves_few (tree_of b) (cpu_list b) tree_clear in
    (few_cpus b (or_clear (cpus_fault b) _ late).0, omega (arith, leaves, length-map (cpu_list b) (λ i. (phandle_readings b i).value), cpu_count_lem b))
