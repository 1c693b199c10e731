pub mod EntersLaws
pub mod RunLaws
pub mod WalkLaws
pub mod FollowLaws
