-- SPDX-License-Identifier: BSD-2-Clause OR GPL-2.0-or-later
-- What is told of a blob, in numbers: number 0 and place 0, with the counts of the records in both tables; or a refusal, in which these are 0.
use Rattle.std.specs.Prelude.{ℕ}

pub record BlobAnswer : Type 0 where
  pub number : ℕ
  pub place : ℕ
  pub nodes : ℕ
  pub props : ℕ
