-- SPDX-License-Identifier: BSD-2-Clause OR GPL-2.0-or-later
-- Laws about the calls of a loader.
pub mod RoomLaws
pub mod RowLaws
pub mod ImageLaws
pub mod SlotLaws
