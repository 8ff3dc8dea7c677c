-- SPDX-License-Identifier: BSD-2-Clause OR GPL-2.0-or-later
-- Where the properties of a node begin, so that a search for one of them can leave out what stands before.
use Rattle.std.specs.Prelude.{ℕ, ◌%◌}

-- nodes share a place by their number modulo 1,024
abbrev pub place_of : ℕ → ℕ
place_of node = node % 1024
