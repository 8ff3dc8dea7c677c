-- SPDX-License-Identifier: BSD-2-Clause OR GPL-2.0-or-later
-- What the parts of the reading call use.
pub mod steps
