-- SPDX-License-Identifier: BSD-2-Clause OR GPL-2.0-or-later
-- The worked cases of 01 that are proved about the definitions.
pub mod answers
