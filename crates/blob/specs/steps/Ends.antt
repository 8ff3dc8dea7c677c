-- SPDX-License-Identifier: BSD-2-Clause OR GPL-2.0-or-later
-- The end of a name, found by way of a table: for each run of 512 bytes, the first zero byte from its start on.
use Rattle.std.specs.Prelude.{◌≡◌, List, ℕ, ◌*◌, ◌<◌, ◌≤◌, length, get_or}
use Rattle.tokens.specs.answers.Read.{zero_from}

abbrev pub run_bytes : ℕ
run_bytes = 512

-- the table is right for all runs of the bytes from run k on
abbrev pub EndsFrom : List ℕ → List ℕ → ℕ → Type 0
EndsFrom bytes table k = (j : ℕ) → k ≤ j → run_bytes * j < length bytes → get_or table j 0 ≡ zero_from bytes (run_bytes * j)
