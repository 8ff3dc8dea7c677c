-- SPDX-License-Identifier: BSD-2-Clause OR GPL-2.0-or-later
-- `position_of` ends: a parent is an earlier record. Assumes nothing.
use Rattle.cpumap.proofs.positions.+position_of.Given as goal

abbrev pub decreases-position_of : goal.decreases-position_of
decreases-position_of l = l.i
