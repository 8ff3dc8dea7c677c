-- SPDX-License-Identifier: BSD-2-Clause OR GPL-2.0-or-later
-- Laws about the parts of the reading calls.
pub mod ReadLaws
pub mod JoinLaws
pub mod CallLaws
pub mod SurveyLaws
pub mod StageLaws
