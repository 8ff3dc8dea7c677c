-- SPDX-License-Identifier: BSD-2-Clause OR GPL-2.0-or-later
-- What is told of a board, in numbers: number 0 and place 0, with the count of rows and the board's hash; or a refusal, in which these are 0.
-- The second place is the record of the property that a refusal speaks of.
use Rattle.std.specs.Prelude.{ℕ}
use Rattle.affinity.specs.declared.Hash.{Hash}

pub record BoardAnswer : Type 0 where
  pub number : ℕ
  pub place : ℕ
  pub second : ℕ
  pub count : ℕ
  pub hash : Hash
