pub mod EntryLaws
pub mod ReplyLaws
pub mod Demand3Laws
pub mod EngineLaws
pub mod DemandLaws
pub mod OutcomeLaws
pub mod DecideLaws
pub mod StrongerLaws
