-- SPDX-License-Identifier: BSD-2-Clause OR GPL-2.0-or-later
-- What the contracts of `property_index` cite.
pub mod facts
pub mod answers
pub mod steps
