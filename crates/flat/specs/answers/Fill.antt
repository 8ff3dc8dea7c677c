-- SPDX-License-Identifier: BSD-2-Clause OR GPL-2.0-or-later
-- The records of the nodes and properties from a begin token up to the close token that belongs to it.
use Rattle.std.specs.Prelude.{Bool, false, cond, List, [], ◌∷◌, ◌++◌, ℕ, zero, suc, ◌+◌, ◌-◌, ◌*◌, ltb, length, get_or}
use Rattle.laws.specs.facts.Limits.{no_parent}
use Rattle.tokens.specs.declared.TokenRead.{TokenRead}
use Rattle.tokens.specs.declared.TokenRead.TheVariants.{Begin, Close, Property, Nop, End, Unsound}
use Rattle.tokens.specs.answers.Read.{zero_from, known_read}

-- the words so far; the record that is open; how many node records there are
pub record Filled : Type 0 where
  pub nodes : List ℕ
  pub props : List ℕ
  pub open_record : ℕ
  pub count : ℕ

abbrev pub fill_start : Filled
fill_start = record { nodes = []; props = []; open_record = no_parent; count = 0 }

abbrev pub node_added : Filled → ℕ → ℕ → Filled
node_added f name len =
    record { nodes = f.nodes ++ (f.open_record ∷ name ∷ len ∷ []); props = f.props; open_record = f.count; count = f.count + 1 }

abbrev pub prop_added : Filled → ℕ → ℕ → ℕ → ℕ → Filled
prop_added f name len value size =
    record {
      nodes = f.nodes;
      props = f.props ++ (f.open_record ∷ name ∷ len ∷ value ∷ size ∷ []);
      open_record = f.open_record;
      count = f.count;
    }

-- whether another record is open around the open one
unfoldable pub has_outer : ℕ → ℕ → Bool
has_outer open_record count = cond (ltb 0 open_record) (ltb open_record count) false

-- the open record's parent is open again
abbrev pub node_closed : Filled → Filled
node_closed f = record { nodes = f.nodes; props = f.props; open_record = get_or f.nodes (3 * f.open_record) 0; count = f.count }

module _ (block strings : List ℕ) (strings_begin : ℕ) where
  -- a token's records, and then those of the tokens behind it
  abbrev pub fill_by : (ℕ → Filled → Filled) → ℕ → Filled → TokenRead → Filled
  fill_by go at f (Begin len next) = go next (node_added f (at + 4) len)
  fill_by go at f Close = cond (has_outer f.open_record f.count) (go (at + 4) (node_closed f)) f
  fill_by go at f (Property name size next) = go next (prop_added f (strings_begin + name) (zero_from strings name - name) (at + 12) size)
  fill_by go at f Nop = go (at + 4) f
  fill_by go at f End = f
  fill_by go at f Unsound = f

  -- at most k tokens
  unfoldable pub fill_from : ℕ → ℕ → Filled → Filled
  fill_from zero at f = f
  fill_from (suc k) at f = fill_by (fill_from k) at f (known_read block (length strings) at)

  -- the records from the begin token at a place on
  abbrev pub filled_from : ℕ → Filled
  filled_from first = fill_from (length block - first) first fill_start
