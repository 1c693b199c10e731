pub mod BufferMasks
pub mod HoldLaws
pub mod RunLaws
pub mod ReplyLaws
