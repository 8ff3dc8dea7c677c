-- SPDX-License-Identifier: BSD-2-Clause OR GPL-2.0-or-later
-- What the contracts of `topology` cite, and rules 18 to 23 as facts.
pub mod facts
pub mod answers
