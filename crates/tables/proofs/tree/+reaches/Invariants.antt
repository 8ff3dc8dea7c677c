-- SPDX-License-Identifier: BSD-2-Clause OR GPL-2.0-or-later
-- The record number falls with each call. Assumes nothing.
use Rattle.tables.proofs.tree.+reaches.Given as goal

abbrev pub decreases-reaches : goal.decreases-reaches
decreases-reaches l = l.p
