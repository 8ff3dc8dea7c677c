-- SPDX-License-Identifier: BSD-2-Clause OR GPL-2.0-or-later
-- The answers of the two calls of a loader, as bytes, and what the blob call leaves in the row bytes.
use Rattle.std.specs.Prelude.{List, [], ◌∷◌, ℕ}
use Rattle.laws.specs.facts.Limits.{no_property}
use Rattle.wire.specs.facts.Bytes.{word_size, in_bytes}
use Rattle.affinity.specs.facts.Told.{ListSlot}
use Rattle.demands.specs.facts.Told.{BoardAnswer}
use Rattle.loader.specs.answers.Image.{image_rows}
use Rattle.sunderwath.specs.answers.Answer.{unless_short}

abbrev pub reply_size : ℕ
reply_size = 16

-- number, place, second place, then count or slot
abbrev pub reply_bytes : (number place second last : ℕ) → List ℕ
reply_bytes number place second last = in_bytes word_size (number ∷ place ∷ second ∷ last ∷ [])

abbrev pub image_reply : BoardAnswer → List ℕ
image_reply a = reply_bytes a.number a.place a.second a.count

abbrev pub slot_reply : ListSlot → List ℕ
slot_reply a = reply_bytes a.number a.place no_property a.slot

-- the row bytes after the call: unchanged where the answer is too short
abbrev pub bytes_behind : List ℕ → ℕ → List ℕ → List ℕ → List ℕ
bytes_behind answer width blob rows = unless_short reply_size answer rows (image_rows width blob rows)
