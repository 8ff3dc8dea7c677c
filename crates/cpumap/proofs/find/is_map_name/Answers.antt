-- SPDX-License-Identifier: BSD-2-Clause OR GPL-2.0-or-later
-- `is_map_name` meets its contract: the bytes of the name. Assumes nothing.
use Rattle.cpumap.specs.answers.Find.{is_map_name}
use Rattle.cpumap.proofs.find.is_map_name.Goals as goal

pub returns : goal.returns
unfolding is_map_name
returns c = rw (← c.node_word-offset.ensures, ← c.node_word-len.ensures) c.range_names.ensures
