-- SPDX-License-Identifier: BSD-2-Clause OR GPL-2.0-or-later
-- What the contracts of `loader` cite: the calls of a loader, on bytes.
pub mod facts
pub mod answers
