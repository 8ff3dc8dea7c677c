-- SPDX-License-Identifier: BSD-2-Clause OR GPL-2.0-or-later
-- What is told of a broken rule, in numbers.
use Rattle.std.specs.Prelude.{ℕ}
use Rattle.laws.specs.declared.rules.Rule.{Rule}
use Rattle.laws.specs.declared.rules.Rule.TheVariants as rule

-- a rule's number, its place and its second place, the record of the property that it speaks of; 0, 0 and no property where no rule is broken
pub record Fault : Type 0 where
  pub number : ℕ
  pub place : ℕ
  pub second : ℕ

-- the number of a rule
abbrev pub number_of : Rule → ℕ
number_of rule.BoardWidth = 1
number_of rule.NodeTableSize = 2
number_of rule.PropertyTableSize = 3
number_of rule.PoolSize = 4
number_of rule.NodeNameRange = 5
number_of rule.NodeParentOrder = 6
number_of rule.PropertyRange = 7
number_of rule.DuplicateProperty = 8
number_of rule.CpusNode = 9
number_of rule.CpusAddressCells = 36
number_of rule.CpusSizeCells = 37
number_of rule.CpuCount = 10
number_of rule.CpuDeviceType = 11
number_of rule.CpuReg = 12
number_of rule.DuplicateCpuReg = 13
number_of rule.CpuMapMissing = 15
number_of rule.CpuMapDuplicate = 16
number_of rule.CpuPhandle = 17
number_of rule.TopologyOutsideMap = 18
number_of rule.CpuMapName = 19
number_of rule.CpuMapKind = 20
number_of rule.CpuMapOrder = 21
number_of rule.CpuMapDepth = 22
number_of rule.CpuMapEmpty = 23
number_of rule.CpuMapPhandle = 24
number_of rule.CpuMapCpuRepeated = 25
number_of rule.CpuUnmapped = 26
number_of rule.RowSpace = 27
number_of rule.SlotTableBits = 38
number_of rule.SlotTableSpace = 39
number_of rule.ListLength = 28
number_of rule.ListMpidr = 29
number_of rule.ListUnknown = 30
number_of rule.PlanPositions = 40
number_of rule.BlobHeader = 31
number_of rule.BlobBlocks = 32
number_of rule.BlobStructure = 33
number_of rule.BlobCpus = 34
number_of rule.TableSpace = 35
number_of rule.AnswerSpace = 49
