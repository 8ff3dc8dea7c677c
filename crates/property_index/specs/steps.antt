-- SPDX-License-Identifier: BSD-2-Clause OR GPL-2.0-or-later
-- What contracts inside the crate and its proofs use.
pub mod KeyOrNone
