-- SPDX-License-Identifier: BSD-2-Clause OR GPL-2.0-or-later
-- What the contract of `read_blob` cites: rules 31 to 35, what is answered, and what holds of it.
pub mod facts
pub mod answers
