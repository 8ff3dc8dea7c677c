-- SPDX-License-Identifier: BSD-2-Clause OR GPL-2.0-or-later
-- What the contracts of `stream` cite: the tree of a devicetree, whole and broken token streams, and the walk over a structure block.
pub mod facts
pub mod answers
