-- SPDX-License-Identifier: BSD-2-Clause OR GPL-2.0-or-later
-- `read_mpidrs` reads one MPIDR after the other, and stops at the first with a bit outside. Assumes nothing.
use mathlib.Core.Path.{◌≡◌}
use mathlib.Core.List.{List}
use Prim.Native.Nat.{ℕ}
use lib.ListN.{get_or}
use Rattle.laws.specs.answers.Fault.{clear, first_fault}
use Rattle.laws.specs.answers.Listed.{laid_over}
use Rattle.wire.specs.facts.Bytes.{number_size, held, numbers_in}
use Rattle.affinity.specs.answers.List.{bit_fault}
use Rattle.loader.proofs.list.read_mpidrs.Given as goal

-- 29 of the MPIDR at a place
abbrev pub outside : List ℕ → ℕ → ℕ
outside list k = bit_fault (get_or (numbers_in list) k 0)

abbrev pub invariant-loop-k : goal.invariant-loop-k
invariant-loop-k l = (l.mpidrs ≡ laid_over (held number_size l.k l.list) l.initial.mpidrs) × (first_fault (outside l.list) l.k ≡ clear)
