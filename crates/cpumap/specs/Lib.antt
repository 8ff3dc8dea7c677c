-- SPDX-License-Identifier: BSD-2-Clause OR GPL-2.0-or-later
-- What the contracts of `cpumap` cite, the map and its records, and rules 15 and 16 as facts.
pub mod facts
pub mod answers
pub mod steps
