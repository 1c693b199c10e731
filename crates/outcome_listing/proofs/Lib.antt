pub mod GatherLaws
pub mod StandLaws
pub mod NextLaws
pub mod NoteLaws
pub mod DeliverLaws
