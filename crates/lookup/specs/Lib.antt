-- SPDX-License-Identifier: BSD-2-Clause OR GPL-2.0-or-later
-- What the contract of `find_property` cites.
pub mod facts
