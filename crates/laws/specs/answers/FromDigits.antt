-- SPDX-License-Identifier: BSD-2-Clause OR GPL-2.0-or-later
-- A number from its binary digits.
use Rattle.std.specs.Prelude.{ℕ, zero, suc, ◌+◌, ◌*◌, ◌^◌}

-- the number with the given digits below n
unfoldable pub from_digits : (ℕ → ℕ) → ℕ → ℕ
from_digits d zero = 0
from_digits d (suc n) = from_digits d n + d n * 2 ^ n
