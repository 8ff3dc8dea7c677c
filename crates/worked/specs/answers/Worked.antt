-- SPDX-License-Identifier: BSD-2-Clause OR GPL-2.0-or-later
-- H1 to H7 and N1 to N6 of 01 as one table, and the claim that the definitions give each of its entries.
use Rattle.std.specs.Prelude.{List, [], ◌∷◌, ◌++◌, map, ◌≡◌, refl, ℕ}
use Rattle.std.specs.Int.Count.{count_leading_zeros, count_trailing_zeros}
use Rattle.laws.specs.answers.Search.{any_below}
use Rattle.laws.specs.facts.Digit.{digit}
use Rattle.laws.specs.answers.FromDigits.{from_digits}
use Rattle.laws.specs.facts.Sum.{sum_below}
use Rattle.affinity.specs.answers.Hash.{shift_of, shifts_of, hash_of_mask, hash_of, slot_in}
use Rattle.affinity.specs.answers.Level.{low_of, top_of, width_of}
use Rattle.affinity.specs.answers.Mask.{differing, mask_of}
use Rattle.affinity.specs.facts.Slot.{level_slot, slot_of}
use Rattle.affinity.specs.facts.Level.{level_part}
use Rattle.names.specs.declared.TopologyName.{TopologyName}
use Rattle.names.specs.declared.TopologyName.TheVariants.{Socket, Cluster, Core, Other}
use Rattle.names.specs.facts.Kind.{Kind, word}
use Rattle.names.specs.answers.Name.{starts_with, digits_from, number_of, name_of}

-- a list of MPIDRs with its shifts, bits and slots; a name with what it is
pub data Case : Type 0 where
  hash : (list shifts : List ℕ) (bits : ℕ) (slots : List ℕ) → Case
  name : (bytes : List ℕ) (is : TopologyName) → Case

unfoldable pub worked : List Case
worked =
    Case.hash (0x0 ∷ []) (0 ∷ 8 ∷ 16 ∷ 32 ∷ []) 0 (0 ∷ [])
    ∷ Case.hash
    (0x0 ∷ 0x1 ∷ 0x100 ∷ 0x101 ∷ 0x10000 ∷ 0x10001 ∷ 0x10100 ∷ 0x10101
    ∷ 0x100000000 ∷ 0x100000001 ∷ 0x100000100 ∷ 0x100000101 ∷ 0x100010000 ∷ 0x100010001 ∷ 0x100010100 ∷ 0x100010101 ∷ [])
    (0 ∷ 7 ∷ 14 ∷ 29 ∷ [])
    4
    (0 ∷ 1 ∷ 2 ∷ 3 ∷ 4 ∷ 5 ∷ 6 ∷ 7 ∷ 8 ∷ 9 ∷ 10 ∷ 11 ∷ 12 ∷ 13 ∷ 14 ∷ 15 ∷ [])
    ∷ Case.hash
    (0x0 ∷ 0x1 ∷ 0x2 ∷ 0x3 ∷ 0x100 ∷ 0x101 ∷ 0x102 ∷ 0x103 ∷ [])
    (0 ∷ 6 ∷ 13 ∷ 29 ∷ [])
    3
    (0 ∷ 1 ∷ 2 ∷ 3 ∷ 4 ∷ 5 ∷ 6 ∷ 7 ∷ [])
    ∷ Case.hash (0x2 ∷ 0x80 ∷ []) (1 ∷ 1 ∷ 9 ∷ 25 ∷ []) 7 (1 ∷ 64 ∷ [])
    ∷ Case.hash (0xF00 ∷ 0xF01 ∷ 0xF02 ∷ 0xF03 ∷ []) (0 ∷ 6 ∷ 14 ∷ 30 ∷ []) 2 (0 ∷ 1 ∷ 2 ∷ 3 ∷ [])
    ∷ Case.hash (0x0 ∷ 0xFF00FFFFFF ∷ []) (0 ∷ 0 ∷ 0 ∷ 8 ∷ []) 32 (0 ∷ 4294967295 ∷ [])
    ∷ Case.hash (0x0 ∷ 0x5 ∷ []) (0 ∷ 5 ∷ 13 ∷ 29 ∷ []) 3 (0 ∷ 5 ∷ [])
    ∷ Case.name (word Kind.cluster ++ (48 ∷ [])) (Cluster 0)
    ∷ Case.name (word Kind.core ++ (49 ∷ 48 ∷ [])) (Core 10)
    ∷ Case.name (word Kind.core ++ (48 ∷ 49 ∷ [])) Other
    ∷ Case.name (word Kind.thread) Other
    ∷ Case.name (word Kind.socket ++ (57 ∷ 57 ∷ 57 ∷ 57 ∷ [])) (Socket 9999)
    ∷ Case.name (word Kind.socket ++ (49 ∷ 48 ∷ 48 ∷ 48 ∷ 48 ∷ [])) Other
    ∷ []

-- the same list or name, with what the definitions give
abbrev pub defined : Case → Case
defined (Case.hash list shifts bits slots) = Case.hash list (hash_of list).shifts (hash_of list).bits (map (slot_in list) list)
defined (Case.name bytes is) = Case.name bytes (name_of bytes)

pub worked_hold : map defined worked ≡ worked
unfolding worked digit from_digits any_below differing mask_of count_leading_zeros count_trailing_zeros low_of top_of width_of level_part
    sum_below shift_of shifts_of hash_of_mask level_slot slot_of starts_with digits_from number_of name_of
worked_hold = refl
