-- SPDX-License-Identifier: BSD-2-Clause OR GPL-2.0-or-later
-- The walk over a structure block that checks the stream and counts the records below `cpus`.
use Rattle.std.specs.Prelude.{true, false, cond, List, ℕ, zero, suc, ◌+◌, ◌-◌, ◌^◌, ◌≤◌, ltb, eqb, length, Ok, Err, Result}
use Rattle.tables.specs.facts.Binding.{cpus_word}
use Rattle.tables.specs.answers.Range.{range_is}
use Rattle.tokens.specs.declared.TokenRead.{TokenRead}
use Rattle.tokens.specs.declared.TokenRead.TheVariants.{Begin, Close, Property, Nop, End, Unsound}
use Rattle.tokens.specs.answers.Read.{token_read}
use Rattle.stream.specs.declared.Walk.{Walk}
use Rattle.stream.specs.declared.Next.{Next}
use Rattle.stream.specs.declared.Next.TheVariants.{On, Ends, Breaks}

-- before the first token
abbrev pub walk_start : ℕ → Walk
walk_start at = record { at = at; depth = 0; fresh = true; inside = 0; cpus = 0; first = 0; nodes = 0; props = 0 }

-- 1 for a node named `cpus`, else 0
unfoldable pub cpus_mark : List ℕ → ℕ → ℕ → ℕ
cpus_mark bytes name len = cond (range_is bytes name len cpus_word) 1 0

-- a child of the root begins
abbrev pub begun_root : List ℕ → Walk → ℕ → ℕ → Walk
begun_root block w len next =
    let mark = cpus_mark block (w.at + 4) len in
    record {
      at = next;
      depth = 2;
      fresh = true;
      inside = mark;
      cpus = w.cpus + mark;
      first = cond (eqb mark 1) w.at w.first;
      nodes = w.nodes + mark;
      props = w.props;
    }

-- another node begins
abbrev pub begun_in : Walk → ℕ → Walk
begun_in w next =
    record {
      at = next;
      depth = w.depth + 1;
      fresh = true;
      inside = w.inside;
      cpus = w.cpus;
      first = w.first;
      nodes = w.nodes + w.inside;
      props = w.props;
    }

unfoldable pub begun : List ℕ → Walk → ℕ → ℕ → Walk
begun block w len next = cond (eqb w.depth 1) (begun_root block w len next) (begun_in w next)

-- a node is closed
abbrev pub closed : Walk → Walk
closed w =
    record {
      at = w.at + 4;
      depth = w.depth - 1;
      fresh = false;
      inside = w.inside;
      cpus = w.cpus;
      first = w.first;
      nodes = w.nodes;
      props = w.props;
    }

-- a node owns a property
abbrev pub owned : Walk → ℕ → Walk
owned w next =
    record {
      at = next;
      depth = w.depth;
      fresh = true;
      inside = w.inside;
      cpus = w.cpus;
      first = w.first;
      nodes = w.nodes;
      props = w.props + w.inside;
    }

-- a NOP is passed
abbrev pub passed : Walk → Walk
passed w =
    record {
      at = w.at + 4;
      depth = w.depth;
      fresh = w.fresh;
      inside = w.inside;
      cpus = w.cpus;
      first = w.first;
      nodes = w.nodes;
      props = w.props;
    }

-- One token. Outside every node a root may begin while `fresh` holds; in a node properties may come while it holds.
abbrev pub root_step : List ℕ → Walk → ℕ → ℕ → Next
root_step block w len next = cond w.fresh (On (begun block w len next)) (Breaks w.at)

abbrev pub begin_step : List ℕ → Walk → ℕ → ℕ → Next
begin_step block w len next = cond (eqb w.depth 0) (root_step block w len next) (On (begun block w len next))

abbrev pub close_step : Walk → Next
close_step w = cond (eqb w.depth 0) (Breaks w.at) (On (closed w))

abbrev pub property_step : Walk → ℕ → Next
property_step w next = cond (eqb w.depth 0) (Breaks w.at) (cond w.fresh (On (owned w next)) (Breaks w.at))

-- the end token comes behind the root, and last in the block
abbrev pub end_step : Walk → ℕ → Next
end_step w end =
    cond (eqb w.depth 0) (cond w.fresh (Breaks w.at) (cond (ltb (w.at + 4) end) (Breaks (w.at + 4)) (Ends w))) (Breaks w.at)

abbrev pub step_of : List ℕ → Walk → TokenRead → Next
step_of block w (Begin len next) = begin_step block w len next
step_of block w Close = close_step w
step_of block w (Property name size next) = property_step w next
step_of block w Nop = On (passed w)
step_of block w End = end_step w (length block)
step_of block w Unsound = Breaks w.at

abbrev pub onward : Next → (Walk → Result Walk ℕ) → Result Walk ℕ
onward (On w) f = f w
onward (Ends w) f = Ok w
onward (Breaks p) f = Err p

module _ (block : List ℕ) (named : ℕ) where
  -- at most k tokens
  unfoldable pub walk_from : ℕ → Walk → Result Walk ℕ
  walk_from zero w = Err (length block)
  walk_from (suc k) w =
      cond (ltb w.at (length block)) (onward (step_of block w (token_read block named w.at)) (walk_from k)) (Err (length block))

  -- from a place of the block on
  abbrev pub walk : ℕ → Result Walk ℕ
  walk start = walk_from (length block - start) (walk_start start)

-- numbers that stay below the place of the walk, so that none of them wraps
pub record Small (w : Walk) : Type 0 where
  pub at : w.at ≤ 2 ^ 63
  pub depth : w.depth ≤ w.at
  pub inside : w.inside ≤ 1
  pub cpus : w.cpus ≤ w.at
  pub first : w.first ≤ w.at
  pub nodes : w.nodes ≤ w.at
  pub props : w.props ≤ w.at

-- what a walk finds stands in the block, and its numbers are small
abbrev pub Bounded : ℕ → Result Walk ℕ → Type 0
Bounded end (Ok w) = Small w × (w.at ≤ end)
Bounded end (Err p) = p ≤ end
