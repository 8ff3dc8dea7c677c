-- SPDX-License-Identifier: BSD-2-Clause OR GPL-2.0-or-later
-- What is told of a list of MPIDRs, in numbers: the mask, the hash or a slot, or the number and the place of what is wrong.
use Rattle.std.specs.Prelude.{ℕ}
use Rattle.affinity.specs.declared.Hash.{Hash}

pub record ListMask : Type 0 where
  pub number : ℕ
  pub place : ℕ
  pub mask : ℕ

pub record ListHash : Type 0 where
  pub number : ℕ
  pub place : ℕ
  pub hash : Hash

pub record ListSlot : Type 0 where
  pub number : ℕ
  pub place : ℕ
  pub slot : ℕ
