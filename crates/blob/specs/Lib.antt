-- SPDX-License-Identifier: BSD-2-Clause OR GPL-2.0-or-later
-- What the contracts inside `blob` cite beside the definitions of `flat`.
pub mod steps
