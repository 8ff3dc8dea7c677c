-- SPDX-License-Identifier: BSD-2-Clause OR GPL-2.0-or-later
-- What the reader of a blob answers, and what it leaves in the lent tables.
use Rattle.std.specs.Prelude.{cond, List, ℕ, ◌*◌, ltb, eqb, length, Ok, Err, Result}
use Rattle.laws.specs.answers.Listed.{laid_over}
use Rattle.tokens.specs.facts.Token.{Blocks}
use Rattle.tokens.specs.answers.Read.{behind_zero}
use Rattle.header.specs.facts.Header.{blocks_of}
use Rattle.header.specs.answers.Fault.{header_fault, blocks_fault}
use Rattle.stream.specs.declared.Walk.{Walk}
use Rattle.stream.specs.answers.Walk.{walk}
use Rattle.flat.specs.facts.Told.{BlobAnswer}
use Rattle.flat.specs.answers.Fill.{Filled, filled_from}

-- the walk over the structure block
abbrev pub walk_in : Blocks → Result Walk ℕ
walk_in b = walk b.structure (behind_zero b.strings) b.start

-- a refusal: every other result is 0
abbrev pub blob_refused : ℕ → ℕ → BlobAnswer
blob_refused number place = record { number = number; place = place; nodes = 0; props = 0 }

-- 34 and 35, or an acceptance
unfoldable pub count_answer : ℕ → ℕ → Walk → BlobAnswer
count_answer node_room prop_room w =
    cond (eqb w.cpus 1)
    (cond (ltb node_room (3 * w.nodes)) (blob_refused 35 0)
    (cond (ltb prop_room (5 * w.props)) (blob_refused 35 0) (record { number = 0; place = 0; nodes = w.nodes; props = w.props })))
    (blob_refused 34 0)

abbrev pub walk_answer : ℕ → ℕ → Result Walk ℕ → BlobAnswer
walk_answer node_room prop_room (Err p) = blob_refused 33 p
walk_answer node_room prop_room (Ok w) = count_answer node_room prop_room w

unfoldable pub blob_answer : List ℕ → ℕ → ℕ → BlobAnswer
blob_answer blob node_room prop_room =
    cond (eqb (header_fault blob) 0)
    (cond (eqb (blocks_fault blob) 0) (walk_answer node_room prop_room (walk_in (blocks_of blob))) (blob_refused 32 0))
    (blob_refused 31 0)

-- where the last child of the root named `cpus` begins
abbrev pub cpus_at : Result Walk ℕ → ℕ
cpus_at (Err p) = 0
cpus_at (Ok w) = w.first

-- the records of that child and of all below it
abbrev pub filled_in : Blocks → Filled
filled_in b = filled_from b.structure b.strings b.strings_begin (cpus_at (walk_in b))

-- the lent tables afterwards: the records at their front where the blob is accepted
abbrev pub filled_over : BlobAnswer → List ℕ → List ℕ → List ℕ
filled_over answer words before = cond (eqb answer.number 0) (laid_over words before) before

unfoldable pub nodes_after : List ℕ → List ℕ → ℕ → List ℕ
nodes_after blob before prop_room = filled_over (blob_answer blob (length before) prop_room) (filled_in (blocks_of blob)).nodes before

unfoldable pub props_after : List ℕ → ℕ → List ℕ → List ℕ
props_after blob node_room before = filled_over (blob_answer blob node_room (length before)) (filled_in (blocks_of blob)).props before
