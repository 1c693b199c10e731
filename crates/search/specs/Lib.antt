pub mod Replies
pub mod Begins
