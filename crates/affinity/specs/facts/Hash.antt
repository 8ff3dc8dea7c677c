-- SPDX-License-Identifier: BSD-2-Clause OR GPL-2.0-or-later
-- The hash of a list of MPIDRs (01, "The slot").
use Rattle.std.specs.Prelude.{◌≡◌, List, ℕ, ◌+◌, ◌^◌, ◌<◌, length, get_or}
use Rattle.laws.specs.facts.Sum.{sum_below}
use Rattle.laws.specs.facts.Listing.{Member}
use Rattle.affinity.specs.declared.Hash.{Hash}
use Rattle.affinity.specs.facts.Mask.{IsMask}
use Rattle.affinity.specs.facts.Level.{begin_of, level_part, Low, Width}
use Rattle.affinity.specs.facts.Slot.{slot_of}

-- the hash of a list of MPIDRs, with the low and the width of each level
pub record IsHash (list : List ℕ) (h : Hash) : Type 0 where
  pub mask : IsMask list h.mask
  pub low : ℕ → ℕ
  pub width : ℕ → ℕ
  pub lows : (level : ℕ) → level < 4 → Low (level_part h.mask level) (low level)
  pub widths : (level : ℕ) → level < 4 → Width (level_part h.mask level) (width level)
  pub four : length h.shifts ≡ 4
  -- a level's shift is its beginning, plus low, minus the widths of all lower levels
  pub shifts : (level : ℕ) → level < 4 → get_or h.shifts level 0 + sum_below width level ≡ begin_of level + low level
  pub bits : h.bits ≡ sum_below width 4
  -- different MPIDRs of the list have different slots, each below 2 to the bits
  pub distinct : (x y : ℕ) → Member list x → Member list y → slot_of h x ≡ slot_of h y → x ≡ y
  pub bounded : (x : ℕ) → Member list x → slot_of h x < 2 ^ h.bits
