-- SPDX-License-Identifier: BSD-2-Clause OR GPL-2.0-or-later
-- What is told of a `Result` in numbers. Assumes nothing.
use mathlib.Core.Path.{◌≡◌}
use mathlib.Core.Bool.{false}
use Prim.Native.Nat.{ℕ, ◌<◌}
use native.Mathlib.Omega.{arith}
use lib.Dec.{eqb}
use borrow.Author.Tests.{ne_eqb}
use Rattle.laws.specs.declared.rules.Refusal.{Refusal}
use Rattle.laws.specs.facts.Told.{Fault}
use Rattle.laws.specs.answers.Fault.{plain, clear, told, or_else, or_number, first_fault}
use Rattle.laws.specs.answers.Told.{told_of}
use Rattle.laws.proofs.FaultLaws.{or_first, told_at, at_fault, or_number_left}
use Rattle.laws.specs.declared.rules.Rule.{Rule}
use Rattle.laws.specs.declared.rules.Rule.TheVariants as rule
use Rattle.laws.specs.facts.Told.{number_of}

-- no rule has the number 0
pub rule_counts : (r : Rule) → number_of r ≡ 0 → ⊥
rule_counts rule.BoardWidth h = omega arith
rule_counts rule.NodeTableSize h = omega arith
rule_counts rule.PropertyTableSize h = omega arith
rule_counts rule.PoolSize h = omega arith
rule_counts rule.NodeNameRange h = omega arith
rule_counts rule.NodeParentOrder h = omega arith
rule_counts rule.PropertyRange h = omega arith
rule_counts rule.DuplicateProperty h = omega arith
rule_counts rule.CpusNode h = omega arith
rule_counts rule.CpusAddressCells h = omega arith
rule_counts rule.CpusSizeCells h = omega arith
rule_counts rule.CpuCount h = omega arith
rule_counts rule.CpuDeviceType h = omega arith
rule_counts rule.CpuReg h = omega arith
rule_counts rule.DuplicateCpuReg h = omega arith
rule_counts rule.CpuMapMissing h = omega arith
rule_counts rule.CpuMapDuplicate h = omega arith
rule_counts rule.CpuPhandle h = omega arith
rule_counts rule.TopologyOutsideMap h = omega arith
rule_counts rule.CpuMapName h = omega arith
rule_counts rule.CpuMapKind h = omega arith
rule_counts rule.CpuMapOrder h = omega arith
rule_counts rule.CpuMapDepth h = omega arith
rule_counts rule.CpuMapEmpty h = omega arith
rule_counts rule.CpuMapPhandle h = omega arith
rule_counts rule.CpuMapCpuRepeated h = omega arith
rule_counts rule.CpuUnmapped h = omega arith
rule_counts rule.RowSpace h = omega arith
rule_counts rule.SlotTableBits h = omega arith
rule_counts rule.SlotTableSpace h = omega arith
rule_counts rule.ListLength h = omega arith
rule_counts rule.ListMpidr h = omega arith
rule_counts rule.ListUnknown h = omega arith
rule_counts rule.PlanPositions h = omega arith
rule_counts rule.BlobHeader h = omega arith
rule_counts rule.BlobBlocks h = omega arith
rule_counts rule.BlobStructure h = omega arith
rule_counts rule.BlobCpus h = omega arith
rule_counts rule.TableSpace h = omega arith
rule_counts rule.AnswerSpace h = omega arith

-- .. so the test for a fault sees it
pub rule_shown : (r : Rule) → eqb (number_of r) 0 ≡ false
rule_shown r = ne_eqb (number_of r) 0 (rule_counts r)

pub refusal_shown : (r : Refusal) → eqb (told_of r).number 0 ≡ false
refusal_shown r = rule_shown r.rule

-- a refusal is the answer, whatever comes behind it
pub refusal_first : (r : Refusal) (b : Fault) → or_else (told_of r) b ≡ told_of r
refusal_first r b = or_first (told_of r) b (rule_counts r.rule)

pub rule_told : (r : Rule) (place : ℕ) → told (number_of r) place ≡ plain (number_of r) place
rule_told r place = told_at (number_of r) place (rule_counts r)

pub rule_first : (r : Rule) (place : ℕ) (b : Fault) → or_else (told (number_of r) place) b ≡ plain (number_of r) place
rule_first r place b = rw (rule_told r place) (or_first (plain (number_of r) place) b (rule_counts r))

pub number_first : (r : Rule) (b : ℕ) → or_number (number_of r) b ≡ number_of r
number_first r b = or_number_left (number_of r) b (rule_counts r)

-- a loop that finds no fault below i, and a rule broken at i
pub refused_at :
    (f : ℕ → ℕ) (i n : ℕ) (r : Rule) → i < n → first_fault f i ≡ clear → number_of r ≡ f i → plain (number_of r) i ≡ first_fault f n
refused_at f i n r lt h e = at_fault f i n lt h e (rule_counts r)
