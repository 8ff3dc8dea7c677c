-- SPDX-License-Identifier: BSD-2-Clause OR GPL-2.0-or-later
-- A key, or none, as a number.
use Rattle.std.specs.Prelude.{ℕ, Option, None, Some}
use Rattle.property_index.specs.declared.Key.{Key}
use Rattle.property_index.specs.facts.Key.{key_number}

-- the number of the key, 4 where there is none
abbrev pub key_or_none : Option Key → ℕ
key_or_none None = 4
key_or_none (Some key) = key_number key
