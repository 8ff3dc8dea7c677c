-- SPDX-License-Identifier: BSD-2-Clause OR GPL-2.0-or-later
-- Topology names as facts: a kind's word followed by the decimal digits of a number (01, "Names in the map").
use Rattle.std.specs.Prelude.{List, [], ◌∷◌, ◌++◌, cond, ◌≡◌, ℕ, zero, suc, ◌+◌, ◌/◌, ◌%◌, ◌<◌, ltb}
use Rattle.names.specs.declared.TopologyName.{TopologyName}
use Rattle.names.specs.declared.TopologyName.TheVariants.{Socket, Cluster, Core, Thread, Other}

pub data Kind : Type 0 where
  socket cluster core thread : Kind

-- `socket`, `cluster`, `core`, `thread`
abbrev pub word : Kind → List ℕ
word socket = 115 ∷ 111 ∷ 99 ∷ 107 ∷ 101 ∷ 116 ∷ []
word cluster = 99 ∷ 108 ∷ 117 ∷ 115 ∷ 116 ∷ 101 ∷ 114 ∷ []
word core = 99 ∷ 111 ∷ 114 ∷ 101 ∷ []
word thread = 116 ∷ 104 ∷ 114 ∷ 101 ∷ 97 ∷ 100 ∷ []

-- the decimal digits of a number, of which at most k are written
unfoldable pub decimal_in : ℕ → ℕ → List ℕ
decimal_in zero n = []
decimal_in (suc k) n = cond (ltb n 10) ((48 + n) ∷ []) (decimal_in k (n / 10) ++ ((48 + n % 10) ∷ []))

-- the decimal digits of a number below 10,000, with no leading zero
abbrev pub decimal : ℕ → List ℕ
decimal n = decimal_in 4 n

-- a name of one to four digits: the kind and the number that it gives
pub record Named (name : List ℕ) (kind : Kind) (n : ℕ) : Type 0 where
  pub small : n < 10000
  pub bytes : name ≡ word kind ++ decimal n

-- what the reader says of a name: the kind and the number that it gives, or that it gives none
pub data Says (name : List ℕ) : TopologyName → Type 0 where
  socket : {n : ℕ} → Named name Kind.socket n → Says name (Socket n)
  cluster : {n : ℕ} → Named name Kind.cluster n → Says name (Cluster n)
  core : {n : ℕ} → Named name Kind.core n → Says name (Core n)
  thread : {n : ℕ} → Named name Kind.thread n → Says name (Thread n)
  none : ((kind : Kind) (n : ℕ) → Named name kind n → ⊥) → Says name Other
