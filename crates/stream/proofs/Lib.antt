-- SPDX-License-Identifier: BSD-2-Clause OR GPL-2.0-or-later
-- Laws that belong to no one function.
pub mod WalkLaws
pub mod StreamLaws
pub mod StateLaws
pub mod TallyLaws
pub mod UniqueLaws
pub mod TellLaws
pub mod AmongLaws
