-- SPDX-License-Identifier: BSD-2-Clause OR GPL-2.0-or-later
-- What a name means, for other crates, and the laws behind it.
mod NameLaws
mod DecimalLaws
mod WordLaws
mod AfterLaws
pub mod NameMeans
