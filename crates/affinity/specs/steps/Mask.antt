-- SPDX-License-Identifier: BSD-2-Clause OR GPL-2.0-or-later
-- The or of a list of MPIDRs, beside its mask.
use Rattle.std.specs.Prelude.{List, ℕ, zero, suc, get_or, length}
use Rattle.std.specs.Int.Bits.{bit_or}
use Rattle.affinity.specs.declared.mask.Gathered.{Gathered}
use Rattle.affinity.specs.answers.Mask.{mask_of}

-- the or of the first n of a list
unfoldable pub some_below : List ℕ → ℕ → ℕ
some_below list zero = 0
some_below list (suc n) = bit_or (some_below list n) (get_or list n 0)

-- the or of a list, with its mask
unfoldable pub gathered : List ℕ → Gathered
gathered list = record { some = some_below list (length list); mask = mask_of list }
