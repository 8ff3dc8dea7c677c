-- SPDX-License-Identifier: BSD-2-Clause OR GPL-2.0-or-later
-- What the contracts of `header` cite: the header of a flattened devicetree, and what is told of it.
pub mod facts
pub mod answers
