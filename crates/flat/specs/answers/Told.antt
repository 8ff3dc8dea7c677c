-- SPDX-License-Identifier: BSD-2-Clause OR GPL-2.0-or-later
-- What an answer about a blob tells, in numbers.
use Rattle.std.specs.Prelude.{Result, Ok, Err}
use Rattle.laws.specs.declared.rules.Broken.{Broken}
use Rattle.laws.specs.facts.Told.{number_of}
use Rattle.flat.specs.declared.BlobCounts.{BlobCounts}
use Rattle.flat.specs.facts.Told.{BlobAnswer}

abbrev pub blob_told : Result BlobCounts Broken → BlobAnswer
blob_told (Ok found) = record { number = 0; place = 0; nodes = found.nodes; props = found.props }
blob_told (Err r) = record { number = number_of r.rule; place = r.place; nodes = 0; props = 0 }
