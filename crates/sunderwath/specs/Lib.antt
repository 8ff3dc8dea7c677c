-- SPDX-License-Identifier: BSD-2-Clause OR GPL-2.0-or-later
-- What the contracts of the exported calls cite.
pub mod answers
