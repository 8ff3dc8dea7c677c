-- SPDX-License-Identifier: BSD-2-Clause OR GPL-2.0-or-later
-- Lists with no bit outside.
use Rattle.std.specs.Prelude.{List, ℕ, ◌<◌, length, get_or}
use Rattle.affinity.specs.facts.Level.{Affine}

-- a list of MPIDRs with no bit outside
abbrev pub AllAffine : List ℕ → Type 0
AllAffine list = (i : ℕ) → i < length list → Affine (get_or list i 0)
