-- SPDX-License-Identifier: BSD-2-Clause OR GPL-2.0-or-later
-- What the contracts of `cpus` cite, and the facts about cpu nodes that rules 9 to 13, 17, 36 and 37 are stated in.
pub mod facts
pub mod answers
